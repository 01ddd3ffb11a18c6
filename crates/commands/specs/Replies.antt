-- What is printed of an answer, byte by byte. Assumes nothing.
use Rattle.std.specs.Prelude.{ℕ, List, [], ◌∷◌, codes, string_bytes}
use Rattle.std.specs.Fmt.{decimal, signed_decimal}
use Rattle.hex.specs.Hex.{encode_lower}
use Rattle.view.specs.Model.{model_of}
use Rattle.view.specs.Printed.{list_text, layout_text}
use Rattle.injectivity.specs.Text.{judgement_text}
use Rattle.drawing.specs.Drawn.{picture_text}
use Rattle.commands.specs.declared.reply.Reply.{Reply}
use Rattle.commands.specs.declared.reply.Reply.TheVariants as reply
use Rattle.commands.specs.Topics.{topic_text, all_help}

-- bytes as two digits each; `-` for none
abbrev pub bytes_text : List ℕ → List ℕ
bytes_text [] = codes "-"
bytes_text (byte ∷ bytes) = encode_lower (byte ∷ bytes)

-- what a reply prints
abbrev pub reply_text : Reply → List ℕ
reply_text reply.Done = codes "ok"
reply_text (reply.Current l) = layout_text (model_of l)
reply_text (reply.Drawn drawing) = picture_text (model_of drawing.layout)
reply_text (reply.Offset z) = signed_decimal z
reply_text (reply.Judged judgement) = judgement_text judgement
reply_text (reply.Readings readings) = list_text signed_decimal readings.items
reply_text (reply.Bytes digits) = string_bytes digits
reply_text (reply.Order axes) = list_text decimal axes.items
reply_text (reply.Strides dense) = list_text signed_decimal dense
reply_text (reply.Help topic) = topic_text topic
reply_text reply.AllHelp = all_help
