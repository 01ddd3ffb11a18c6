-- Chains of rules: how they are grouped does not matter, nor a last rule that lets pass.
use mathlib.Core.Path.{◌≡◌, refl}
use Rattle.specification.specs.Outcome.{Check, done, refused, pass, ◌>>◌}

pub then-pass : (c : Check) → (c >> pass) ≡ c
unfolding ◌>>◌
then-pass (done u) = refl
then-pass (refused number values) = refl

pub then-assoc : (a b c : Check) → ((a >> b) >> c) ≡ (a >> (b >> c))
unfolding ◌>>◌
then-assoc (done u) b c = refl
then-assoc (refused number values) b c = refl
