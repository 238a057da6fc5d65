-- The words of a line, where there are too few or too many.
use Rattle.std.proofs.Common.{◌≡◌, ◌∙◌, ℕ, ◌≤◌, List, [], ◌∷◌, length, refl, sym, ap, subst, arith, Some, None, Option, ◌⊎◌, inl, inr}
use Rattle.std.specs.Prelude.{◌==◌}
use Rattle.std.specs.Borrow.{Bor}
use Rattle.std.specs.List.{join_with_byte}
use Rattle.std.proofs.lemmas.List.Splits.{length-slice_split, join_with_byte-slice_split}
use Rattle.ct_base.specs.Split.{parts_at, IsFirstPart}
use Rattle.ct_script.specs.Grammar.{of_two, call_with}
use Rattle.ct_script.specs.declared.verb.Verb.{Verb}
use Rattle.ct_script.specs.declared.verb.Verb.TheVariants.{Create, Mkdir, Write, Fill, Append, Read, Truncate, Unlink, Rmdir, Rename, Exchange, Stat, List as ListNames, Where}

some_part : (ps : List (List ℕ)) → 1 ≤ length ps → (p : List ℕ) × (more : List (List ℕ)) × (ps ≡ p ∷ more)
some_part [] h = absurd (omega (arith, h))
some_part (p ∷ ps) h = (p, ps, refl)

-- there is a first part
parts_some : (c : ℕ) (bytes : List ℕ) → (p : List ℕ) × (more : List (List ℕ)) × (parts_at c bytes ≡ p ∷ more)
parts_some c bytes = some_part (parts_at c bytes) (let long = length-slice_split (λ b. b == c) bytes in omega (arith, long))

-- the other verbs have no call of one word, of two and of three
pub no_call_of_one : (verb : Verb) (p : List ℕ) → (verb ≡ Create → ⊥) → (verb ≡ Mkdir → ⊥) → (verb ≡ Unlink → ⊥) → (verb ≡ Rmdir → ⊥) → (verb ≡ Stat → ⊥) → (verb ≡ ListNames → ⊥) → (verb ≡ Where → ⊥) → None ≡ call_with verb (p ∷ [])
no_call_of_one Create p c m u r s l w = absurd (c refl)
no_call_of_one Mkdir p c m u r s l w = absurd (m refl)
no_call_of_one Write p c m u r s l w = refl
no_call_of_one Fill p c m u r s l w = refl
no_call_of_one Append p c m u r s l w = refl
no_call_of_one Read p c m u r s l w = refl
no_call_of_one Truncate p c m u r s l w = refl
no_call_of_one Unlink p c m u r s l w = absurd (u refl)
no_call_of_one Rmdir p c m u r s l w = absurd (r refl)
no_call_of_one Rename p c m u r s l w = refl
no_call_of_one Exchange p c m u r s l w = refl
no_call_of_one Stat p c m u r s l w = absurd (s refl)
no_call_of_one ListNames p c m u r s l w = absurd (l refl)
no_call_of_one Where p c m u r s l w = absurd (w refl)

pub no_call_of_two : (verb : Verb) (p q : List ℕ) → (verb ≡ Append → ⊥) → (verb ≡ Truncate → ⊥) → (verb ≡ Rename → ⊥) → None ≡ call_with verb (p ∷ q ∷ [])
no_call_of_two Create p q x y z = refl
no_call_of_two Mkdir p q x y z = refl
no_call_of_two Write p q x y z = refl
no_call_of_two Fill p q x y z = refl
no_call_of_two Append p q x y z = absurd (x refl)
no_call_of_two Read p q x y z = refl
no_call_of_two Truncate p q x y z = absurd (y refl)
no_call_of_two Unlink p q x y z = refl
no_call_of_two Rmdir p q x y z = refl
no_call_of_two Rename p q x y z = absurd (z refl)
no_call_of_two Exchange p q x y z = refl
no_call_of_two Stat p q x y z = refl
no_call_of_two ListNames p q x y z = refl
no_call_of_two Where p q x y z = refl

pub no_call_of_three : (verb : Verb) (p q r : List ℕ) → (verb ≡ Write → ⊥) → (verb ≡ Read → ⊥) → None ≡ call_with verb (p ∷ q ∷ r ∷ [])
no_call_of_three Create p q r x y = refl
no_call_of_three Mkdir p q r x y = refl
no_call_of_three Write p q r x y = absurd (x refl)
no_call_of_three Fill p q r x y = refl
no_call_of_three Append p q r x y = refl
no_call_of_three Read p q r x y = absurd (y refl)
no_call_of_three Truncate p q r x y = refl
no_call_of_three Unlink p q r x y = refl
no_call_of_three Rmdir p q r x y = refl
no_call_of_three Rename p q r x y = refl
no_call_of_three Exchange p q r x y = refl
no_call_of_three Stat p q r x y = refl
no_call_of_three ListNames p q r x y = refl
no_call_of_three Where p q r x y = refl

-- no verb but fill and exchange has more than three words
few_at : (verb : Verb) (a b d e : List ℕ) (ws : List (List ℕ)) → (verb ≡ Fill → ⊥) → (verb ≡ Exchange → ⊥) → None ≡ call_with verb (a ∷ b ∷ d ∷ e ∷ ws)
few_at Create a b d e ws x y = refl
few_at Mkdir a b d e ws x y = refl
few_at Write a b d e ws x y = refl
few_at Fill a b d e ws x y = absurd (x refl)
few_at Append a b d e ws x y = refl
few_at Read a b d e ws x y = refl
few_at Truncate a b d e ws x y = refl
few_at Unlink a b d e ws x y = refl
few_at Rmdir a b d e ws x y = refl
few_at Rename a b d e ws x y = refl
few_at Exchange a b d e ws x y = absurd (y refl)
few_at Stat a b d e ws x y = refl
few_at ListNames a b d e ws x y = refl
few_at Where a b d e ws x y = refl

pub too_many : (verb : Verb) (a b d rest : List ℕ) → (verb ≡ Fill → ⊥) → (verb ≡ Exchange → ⊥) → None ≡ call_with verb (a ∷ b ∷ d ∷ parts_at 32 rest)
too_many verb a b d rest x y = let p = parts_some 32 rest in few_at verb a b d p.0 p.1 x y ∙ ap (λ ws. call_with verb (a ∷ b ∷ d ∷ ws)) (sym p.2)

pub fill_too_many : (a b d e rest : List ℕ) → None ≡ call_with Fill (a ∷ b ∷ d ∷ e ∷ parts_at 32 rest)
fill_too_many a b d e rest = let p = parts_some 32 rest in ap (λ ws. call_with Fill (a ∷ b ∷ d ∷ e ∷ ws)) (sym p.2)

pub exchange_too_many : (a b d e f rest : List ℕ) → None ≡ call_with Exchange (a ∷ b ∷ d ∷ e ∷ f ∷ parts_at 32 rest)
exchange_too_many a b d e f rest = let p = parts_some 32 rest in ap (λ ws. call_with Exchange (a ∷ b ∷ d ∷ e ∷ f ∷ ws)) (sym p.2)

-- one of two words says nothing
pub neither : {A B C : Type 0} (f : A → B → C) (a : Option A) (b : Option B) → (a ≡ None) ⊎ (b ≡ None) → None ≡ of_two f a b
neither f None b h = refl
neither f (Some x) None h = refl
neither f (Some x) (Some y) (inl h) = absurd (cc)
neither f (Some x) (Some y) (inr h) = absurd (cc)

-- what a split off tells of the parts
pub part_is : (bytes first : List ℕ) (o : Option (Bor (List ℕ))) (more : Bor (List ℕ)) → IsFirstPart 32 bytes first o → o ≡ Some more → parts_at 32 bytes ≡ first ∷ parts_at 32 more.now
part_is bytes first o more f is = (subst (IsFirstPart 32 bytes first) is f).0

only_part : (bytes first : List ℕ) → parts_at 32 bytes ≡ first ∷ [] → first ≡ bytes
only_part bytes first h = sym (ap (join_with_byte 32) h) ∙ join_with_byte-slice_split 32 bytes

pub last_length : (bytes first : List ℕ) (o : Option (Bor (List ℕ))) → IsFirstPart 32 bytes first o → o ≡ None → length first ≤ length bytes
last_length bytes first o f is = let same = ap length (only_part bytes first (subst (IsFirstPart 32 bytes first) is f)) in omega (arith, same)
