-- Each topic is found by its name, and each refusal by its number.
use Rattle.std.proofs.Common.{◌≡◌, ◌≢◌, ℕ, List, [], ◌∷◌, ◌++◌, Option, Some, None, IfNone, arith, refl, sym, ap, ◌∙◌}
use Rattle.std.proofs.lemmas.Fmt.{decimal_digit, decimal_step}
use Rattle.std.proofs.lemmas.Option.{none-some}
use Rattle.std.specs.Fmt.{decimal}
use Rattle.view.specs.Answers.{number_of}
use Rattle.view.specs.declared.layout.Refusal.{Refusal}
use Rattle.view.specs.declared.layout.Refusal.TheVariants as refusal
use Rattle.commands.specs.declared.command.Command.{Command}
use Rattle.commands.specs.declared.kind.Kind.TheVariants.{TooManyAxes, LengthsDiffer, OutOfRange, WrongLength, BadAxis, BadExtent, BadIndex, TooManyPositions, ShortScratch, ShortOutput, NotARecord, ExtentsDiffer, ShortReadings, NotDistinct, EmptyAxis, LongAxis}
use Rattle.commands.specs.declared.usage_word.UsageWord.TheVariants as usage
use Rattle.commands.specs.declared.topic.Topic.{Topic}
use Rattle.commands.specs.declared.topic.Topic.TheVariants as topic
use Rattle.commands.specs.Commands.{name_of, named}
use Rattle.commands.specs.Topics.{kind_texts, kind_of, word_texts, topic_name, topic_named, EachTopicIsNamed, EachRefusalIsNamed}
use Rattle.commands.proofs.Named.{each as each_command}

-- the name of a command comes first
by_command : (name : List ℕ) (command : Command) → named name ≡ Some command → topic_named name ≡ Some (topic.Command command)
unfolding topic_named name_of
by_command name command e = rw e refl

pub each : EachTopicIsNamed
unfolding name_of kind_texts word_texts topic_name topic_named
each (topic.Command command) = by_command (name_of command) command (each_command command)
each (topic.Word usage.Len) = refl
each (topic.Word usage.OutLen) = refl
each (topic.Word usage.Offset) = refl
each (topic.Word usage.Extents) = refl
each (topic.Word usage.Strides) = refl
each (topic.Word usage.List) = refl
each (topic.Word usage.Pairs) = refl
each (topic.Word usage.From) = refl
each (topic.Word usage.To) = refl
each (topic.Word usage.Axis) = refl
each (topic.Word usage.Readings) = refl
each (topic.Word usage.Bytes) = refl
each (topic.Word usage.Words) = refl
each (topic.Word usage.Room) = refl
each (topic.Word usage.Command) = refl
each (topic.Word usage.Topic) = refl
each topic.Words = refl
each (topic.Refusal TooManyAxes) = refl
each (topic.Refusal LengthsDiffer) = refl
each (topic.Refusal OutOfRange) = refl
each (topic.Refusal WrongLength) = refl
each (topic.Refusal BadAxis) = refl
each (topic.Refusal BadExtent) = refl
each (topic.Refusal BadIndex) = refl
each (topic.Refusal TooManyPositions) = refl
each (topic.Refusal ShortScratch) = refl
each (topic.Refusal ShortOutput) = refl
each (topic.Refusal NotARecord) = refl
each (topic.Refusal ExtentsDiffer) = refl
each (topic.Refusal ShortReadings) = refl
each (topic.Refusal NotDistinct) = refl
each (topic.Refusal EmptyAxis) = refl
each (topic.Refusal LongAxis) = refl
each topic.Refusals = refl

-- the number of a refusal as text
spelled : (why : Refusal) → decimal (number_of why) ≡ (kind_texts (kind_of why)).number
unfolding kind_texts
spelled refusal.TooManyAxes = decimal_digit 1 (omega arith)
spelled refusal.LengthsDiffer = decimal_digit 2 (omega arith)
spelled refusal.OutOfRange = decimal_digit 3 (omega arith)
spelled (refusal.WrongLength a b) = decimal_digit 4 (omega arith)
spelled (refusal.BadAxis axis rank) = decimal_digit 5 (omega arith)
spelled (refusal.BadExtent axis) = decimal_digit 6 (omega arith)
spelled (refusal.BadIndex axis) = decimal_digit 7 (omega arith)
spelled refusal.TooManyPositions = decimal_digit 8 (omega arith)
spelled (refusal.ShortScratch words) = decimal_digit 9 (omega arith)
spelled (refusal.ShortOutput needed) = decimal_step 10 (omega arith) (omega arith) ∙ ap (λ front. front ++ 48 ∷ []) (decimal_digit 1 (omega arith))
spelled refusal.NotARecord = decimal_step 11 (omega arith) (omega arith) ∙ ap (λ front. front ++ 49 ∷ []) (decimal_digit 1 (omega arith))
spelled refusal.ExtentsDiffer = decimal_step 12 (omega arith) (omega arith) ∙ ap (λ front. front ++ 50 ∷ []) (decimal_digit 1 (omega arith))
spelled refusal.ShortReadings = decimal_step 13 (omega arith) (omega arith) ∙ ap (λ front. front ++ 51 ∷ []) (decimal_digit 1 (omega arith))
spelled refusal.NotDistinct = decimal_step 14 (omega arith) (omega arith) ∙ ap (λ front. front ++ 52 ∷ []) (decimal_digit 1 (omega arith))
spelled refusal.EmptyAxis = decimal_step 15 (omega arith) (omega arith) ∙ ap (λ front. front ++ 53 ∷ []) (decimal_digit 1 (omega arith))
spelled refusal.LongAxis = decimal_step 16 (omega arith) (omega arith) ∙ ap (λ front. front ++ 54 ∷ []) (decimal_digit 1 (omega arith))

pub refusals : EachRefusalIsNamed
unfolding topic_name
refusals why = ap topic_named (spelled why) ∙ each (topic.Refusal (kind_of why))

pub none : (result : Option Topic) (name : List ℕ) → result ≡ topic_named name → IfNone result ((topic : Topic) → topic_name topic ≢ name)
none None name e = λ topic same. none-some topic (e ∙ ap topic_named (sym same) ∙ each topic)
none (Some found) name e = tt
