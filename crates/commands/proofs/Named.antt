-- Each command is found by its name.
use Rattle.std.proofs.Common.{◌≡◌, ◌≢◌, ℕ, List, Option, Some, None, IfNone, refl, sym, ap, ◌∙◌}
use Rattle.std.proofs.lemmas.Option.{none-some}
use Rattle.commands.specs.declared.command.Command.{Command}
use Rattle.commands.specs.declared.command.Command.TheVariants as command
use Rattle.commands.specs.declared.command.Change.TheVariants.{New, Set, Permute, Diagonal, Broadcast, Read}
use Rattle.commands.specs.declared.command.Query.TheVariants.{Bounds, Show, Draw, Offset, Normal, Verdict, Injective, Copy, Means, Record, Rest, Order, Column, Row, Help}
use Rattle.commands.specs.Commands.{name_of, named, EachIsNamed}

pub each : EachIsNamed
unfolding name_of
each (command.Change New) = refl
each (command.Query Bounds) = refl
each (command.Change Set) = refl
each (command.Query Show) = refl
each command.Hold = refl
each (command.Query Draw) = refl
each (command.Change Permute) = refl
each (command.Change Diagonal) = refl
each (command.Change Broadcast) = refl
each (command.Query Offset) = refl
each (command.Query Normal) = refl
each (command.Query Verdict) = refl
each (command.Query Injective) = refl
each (command.Query Copy) = refl
each (command.Query Means) = refl
each (command.Query Record) = refl
each (command.Change Read) = refl
each (command.Query Rest) = refl
each (command.Query Order) = refl
each (command.Query Column) = refl
each (command.Query Row) = refl
each (command.Query Help) = refl

pub none : (result : Option Command) (name : List ℕ) → result ≡ named name → IfNone result ((command : Command) → name_of command ≢ name)
none None name e = λ command same. none-some command (e ∙ ap named (sym same) ∙ each command)
none (Some found) name e = tt
