-- When a check passes and with what it is refused, as two equivalences; and how they go over to checks made one after another.
use mathlib.Core.Bool.{Bool, true, false, not}
use mathlib.Core.List.{List}
use mathlib.Core.Logic.{◌↔◌}
use mathlib.Core.Path.{◌≡◌, refl, sym, subst}
use Prim.Native.Nat.{ℕ, zero, suc, ◌<◌}
use native.Mathlib.Omega.{arith}
use lib.Dec.{T, eqb}
use borrow.Author.Tests.{eqb-true, eq-eqb, not-false}
use Rattle.specification.specs.Outcome.{Outcome, Check, done, refused, pass, refuse_if, ◌>>◌}
use Rattle.specification.specs.Layout.{LayoutModel}
use Rattle.specification.specs.Views.{unless_refused}
use Rattle.specification.proofs.OutcomeLaws.{clash, refused-inj}
use Rattle.std.proofs.lemmas.Int.{ints}

-- a check passes exactly if P, and is refused with a number and values exactly if R holds of them
pub record Answers (c : Check) (P : Type 0) (R : ℕ → List ℕ → Type 0) : Type 0 where
  pub passes : (c ≡ pass) ↔ P
  pub refuses : (n : ℕ) (vs : List ℕ) → (c ≡ refused n vs) ↔ R n vs

-- one refusal only, and that if P fails
pub data Only (number : ℕ) (values : List ℕ) (P : Type 0) : ℕ → List ℕ → Type 0 where
  only : ¬ P → Only number values P number values

-- refused by the first check, or by the second if the first passes
pub data InOrder (P : Type 0) (R S : ℕ → List ℕ → Type 0) (n : ℕ) (vs : List ℕ) : Type 0 where
  sooner : R n vs → InOrder P R S n vs
  later : P → S n vs → InOrder P R S n vs

-- refused at the first of n places that is not good
pub data FirstFault (n : ℕ) (Good : ℕ → Type 0) (Bad : ℕ → ℕ → List ℕ → Type 0) : ℕ → List ℕ → Type 0 where
  first : (i : ℕ) → i < n → ((j : ℕ) → j < i → Good j) → {number : ℕ} {values : List ℕ} → Bad i number values → FirstFault n Good Bad number values

-- ---- one check

-- answers in other words
pub restated : {c : Check} {P Q : Type 0} {R S : ℕ → List ℕ → Type 0} → Answers c P R → (P → Q) → (Q → P)
    → ((n : ℕ) (vs : List ℕ) → R n vs → S n vs) → ((n : ℕ) (vs : List ℕ) → S n vs → R n vs) → Answers c Q S
restated a f g h k = grind (arith, ints)

-- what does not pass is refused somehow
pub some-refusal : (c : Check) {P : Type 0} {R : ℕ → List ℕ → Type 0} → Answers c P R → ¬ P → (n : ℕ) × (vs : List ℕ) × R n vs
some-refusal (done u) a f = absurd (f (a.passes.0 refl))
some-refusal (refused n vs) a f = (n, vs, (a.refuses n vs).0 refl)

-- a test refuses if it holds, so it is enough to say when it does not
pub test-answers : (t : Bool) (number : ℕ) (values : List ℕ) {P : Type 0} → ((t ≡ false) ↔ P) → Answers (refuse_if t number values) P (Only number values P)
unfolding refuse_if
test-answers true number values h = record {
  passes = (λ e. absurd (clash (sym e)), λ p. absurd (subst T (h.1 p) tt));
  refuses = λ n vs. (λ e. refusal (λ p. subst T (h.1 p) tt) (refused-inj e), λ o. equation o);
}
  where
    refusal : {P : Type 0} {n : ℕ} {vs : List ℕ} → ¬ P → (number ≡ n) × (values ≡ vs) → Only number values P n vs
    refusal {P} f e = rw (← e.0, ← e.1) (only f)

    equation : {P : Type 0} {n : ℕ} {vs : List ℕ} → Only number values P n vs → ◌≡◌ {A = Check} (refused number values) (refused n vs)
    equation (only f) = refl
test-answers false number values h = record {
  passes = (λ e. h.0 refl, λ p. refl);
  refuses = λ n vs. (λ e. absurd (clash e), λ o. absurd (none o (h.0 refl)));
}
  where
    none : {P : Type 0} {n : ℕ} {vs : List ℕ} → Only number values P n vs → ¬ P
    none (only f) = f

-- a check with one refusal, in other words
pub only-restated : {c : Check} {P Q : Type 0} {number : ℕ} {values : List ℕ} → Answers c P (Only number values P) → (P → Q) → (Q → P) → Answers c Q (Only number values Q)
only-restated {P} {Q} {number} {values} a f g = restated a f g (λ n vs o. moved g o) (λ n vs o. moved f o)
  where
    moved : {X Y : Type 0} {n : ℕ} {vs : List ℕ} → (Y → X) → Only number values X n vs → Only number values Y n vs
    moved h (only k) = only (λ y. k (h y))

-- a test for unequal numbers
pub equal-tested : (a b : ℕ) → (not (eqb a b) ≡ false) ↔ (a ≡ b)
equal-tested a b = (λ e. eqb-true a b (not-false (eqb a b) e), λ e. rw (eq-eqb a b e))

-- a view answers as its check does
answer_is : (old new : LayoutModel) (c : Check) → (unless_refused old c new).answer ≡ c
unfolding unless_refused
answer_is old new (done u) = refl
answer_is old new (refused n vs) = refl

pub of-answer : (old new : LayoutModel) {c : Check} {P : Type 0} {R : ℕ → List ℕ → Type 0} → Answers c P R → Answers (unless_refused old c new).answer P R
of-answer old new {c} a = rw (answer_is old new c) a

-- and leaves the old layout if it is refused
pub left-old : (old new : LayoutModel) (c : Check) {n : ℕ} {vs : List ℕ} → (unless_refused old c new).answer ≡ refused n vs → (unless_refused old c new).layout ≡ old
unfolding unless_refused
left-old old new c e = grind (arith, ints)

-- ---- one check after another

-- the second check is asked only if the first passes
pub then-answers : (c d : Check) {P Q : Type 0} {R S : ℕ → List ℕ → Type 0} → Answers c P R → (P → Answers d Q S) → Answers (c >> d) (P × Q) (InOrder P R S)
unfolding ◌>>◌
then-answers c d a b = grind (arith, ints)

pub then-assoc : {B : Type 0} (c d : Check) (o : Outcome B) → (c >> d) >> o ≡ c >> d >> o
unfolding ◌>>◌
then-assoc (done u) d o = refl
then-assoc (refused n vs) d o = refl

-- what is done if a check passes is refused as the check is
pub done-after : {B : Type 0} (c : Check) (x : B) (n : ℕ) (vs : List ℕ) → (c >> done x ≡ refused n vs) ↔ (c ≡ refused n vs)
unfolding ◌>>◌
done-after c x n vs = grind (arith, ints)

-- two checks with the same refusal have that refusal
pub then-only : (c d : Check) {P Q : Type 0} (number : ℕ) (values : List ℕ) → Answers c P (Only number values P) → (P → Answers d Q (Only number values Q))
    → Answers (c >> d) (P × Q) (Only number values (P × Q))
then-only c d {P} {Q} number values a b = restated (then-answers c d a b) (λ w. w) (λ w. w) (λ n vs o. to o) (λ n vs o. from o)
  where
    to : {n : ℕ} {vs : List ℕ} → InOrder P (Only number values P) (Only number values Q) n vs → Only number values (P × Q) n vs
    to (sooner (only f)) = only (λ w. f w.0)
    to (later p (only f)) = only (λ w. f w.1)

    by : (c : Check) → Answers c P (Only number values P) → ¬ (P × Q) → InOrder P (Only number values P) (Only number values Q) number values
    by (done u) a f = let p : P = a.passes.0 refl in later p (only (λ q. f (p, q)))
    by (refused m ws) a f = sooner (only (λ p. clash (sym (a.passes.1 p))))

    from : {n : ℕ} {vs : List ℕ} → Only number values (P × Q) n vs → InOrder P (Only number values P) (Only number values Q) n vs
    from (only f) = by c a f

-- ---- checks of n places, in turn

-- the check of place 0, then of place 1, up to n of them
unfoldable pub in_turn : (ℕ → Check) → ℕ → Check
in_turn check zero = pass
in_turn check (suc n) = check 0 >> in_turn (λ i. check (suc i)) n

pub in-turn-ext : (f g : ℕ → Check) (n : ℕ) → ((i : ℕ) → f i ≡ g i) → in_turn f n ≡ in_turn g n
unfolding in_turn
in-turn-ext f g n e = grind (arith, ints)

-- it passes if each place is good, and is refused at the first that is not
pub turn-answers : (check : ℕ → Check) (n : ℕ) {Good : ℕ → Type 0} {Bad : ℕ → ℕ → List ℕ → Type 0} → ((i : ℕ) → i < n → Answers (check i) (Good i) (Bad i))
    → Answers (in_turn check n) ((i : ℕ) → i < n → Good i) (FirstFault n Good Bad)
unfolding in_turn
turn-answers check zero {Good} {Bad} a = record {
  passes = (λ e i h. absurd (omega arith), λ f. refl);
  refuses = λ n vs. (λ e. absurd (clash e), λ w. absurd (none w));
}
  where
    none : {m : ℕ} {ws : List ℕ} → FirstFault 0 Good Bad m ws → ⊥
    none (first i h f b) = omega arith
turn-answers check (suc n) {Good} {Bad} a =
    restated (then-answers (check 0) (in_turn (λ i. check (suc i)) n) (a 0 (omega arith)) (λ g. turn-answers (λ i. check (suc i)) n (λ i h. a (suc i) (omega arith))))
    (λ w i h. all w i h) (λ f. (f 0 (omega arith), λ i h. f (suc i) (omega arith)))
    (λ m ws o. to o) (λ m ws o. from o)
  where
    all : Good 0 × ((i : ℕ) → i < n → Good (suc i)) → (i : ℕ) → i < suc n → Good i
    all w zero h = w.0
    all w (suc i) h = w.1 i (omega arith)

    below : Good 0 → (i : ℕ) → ((j : ℕ) → j < i → Good (suc j)) → (j : ℕ) → j < suc i → Good j
    below g i f zero h = g
    below g i f (suc j) h = f j (omega arith)

    to : {m : ℕ} {ws : List ℕ} → InOrder (Good 0) (Bad 0) (FirstFault n (λ i. Good (suc i)) (λ i. Bad (suc i))) m ws → FirstFault (suc n) Good Bad m ws
    to (sooner b) = first 0 (omega arith) (λ j h. absurd (omega arith)) b
    to (later g (first i h f b)) = first (suc i) (omega arith) (below g i f) b

    from : {m : ℕ} {ws : List ℕ} → FirstFault (suc n) Good Bad m ws → InOrder (Good 0) (Bad 0) (FirstFault n (λ i. Good (suc i)) (λ i. Bad (suc i))) m ws
    from (first zero h f b) = sooner b
    from (first (suc i) h f b) = later (f 0 (omega arith)) (first i (omega arith) (λ j k. f (suc j) (omega arith)) b)
