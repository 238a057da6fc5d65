-- Words between spaces, and lines that end with byte 10.
use Rattle.std.proofs.Common.{◌≡◌, ◌∙◌, ℕ, ◌<◌, ◌≤◌, Bool, true, false, List, [], ◌∷◌, ◌++◌, length, refl, sym, ap, append_assoc, append-nil, arith, Some, None, if◌then◌else◌}
use Rattle.std.specs.Prelude.{◌==◌, ◌&&◌, nat_lt, nat_le, cond}
use Rattle.std.specs.List.{flat_map, list_all, onto_first}
use Rattle.std.proofs.lemmas.Bool.Decides.{nat_tests}
use Rattle.std.proofs.lemmas.Grind.{flat_map-append}
use Rattle.std.proofs.lemmas.List.Folds.{list_all-append}
use Rattle.ct_base.specs.Split.{parts_at}
use Rattle.ct_tree.specs.Runs.{Item, call}
use Rattle.ct_tree.specs.Step.{Op}
use Rattle.ct_script.specs.Grammar.{chopped, call_in, call_of}
use Rattle.ct_script.specs.Script.{lines, item_of, items_at, items_of, items}
use Rattle.ct_script.specs.declared.scratch.TheConstants.{LINE_BYTES}
use Rattle.ct_script.specs.Texts.{line_of}
use Rattle.ct_script.proofs.Cuts.{split_joined, lines_joined}

pub both : (b c : Bool) → (b && c) ≡ true → (b ≡ true) × (c ≡ true)
both true c h = (refl, h)
both false c h = absurd (cc)

pub and_true : (b c : Bool) → b ≡ true → c ≡ true → (b && c) ≡ true
and_true true c h k = k
and_true false c h k = absurd (cc)

-- each byte is greater
abbrev pub are_above : ℕ → List ℕ → Bool
are_above k text = list_all (λ b. nat_lt k b) text

pub above_join : (k : ℕ) (xs ys : List ℕ) → are_above k xs ≡ true → are_above k ys ≡ true → are_above k (xs ++ ys) ≡ true
above_join k xs ys a b = list_all-append (λ b. nat_lt k b) xs ys ∙ and_true (are_above k xs) (are_above k ys) a b

pub above_more : (k x : ℕ) (xs : List ℕ) → k < x → are_above k xs ≡ true → are_above k (x ∷ xs) ≡ true
above_more k x xs h a = and_true (nat_lt k x) (are_above k xs) (grind (arith, nat_tests)) a

less : (j k x : ℕ) → j ≤ k → nat_lt k x ≡ true → nat_lt j x ≡ true
less j k x h a = grind (arith, nat_tests)

pub above_less : (j k : ℕ) (xs : List ℕ) → j ≤ k → are_above k xs ≡ true → are_above j xs ≡ true
above_less j k [] h a = refl
above_less j k (x ∷ xs) h a =
    let b = both (nat_lt k x) (are_above k xs) a in
    and_true (nat_lt j x) (are_above j xs) (less j k x h b.0) (above_less j k xs h b.1)

other : (k x : ℕ) → nat_lt k x ≡ true → (x == k) ≡ false
other k x h = grind (arith, nat_tests)

-- bytes above the separator are one part
pub one_part : (k : ℕ) (xs : List ℕ) → are_above k xs ≡ true → parts_at k xs ≡ xs ∷ []
one_part k [] a = refl
one_part k (x ∷ xs) a =
    let b = both (nat_lt k x) (are_above k xs) a in
    ap (λ t. cond t ([] ∷ parts_at k xs) (onto_first x (parts_at k xs))) (other k x b.0) ∙ ap (onto_first x) (one_part k xs b.1)

pub last_word : (word : List ℕ) → are_above 32 word ≡ true → parts_at 32 word ≡ word ∷ []
last_word word a = one_part 32 word a

pub word_then : (word rest : List ℕ) (words : List (List ℕ)) → are_above 32 word ≡ true → parts_at 32 rest ≡ words → parts_at 32 (word ++ 32 ∷ rest) ≡ word ∷ words
word_then word rest words a is =
    split_joined (λ b. b == 32) word 32 rest refl ∙ ap (λ ps. ps ++ parts_at 32 rest) (one_part 32 word a) ∙ ap (λ ps. word ∷ ps) is

-- such bytes have no byte 13 at their end
chopped_same : (xs : List ℕ) → are_above 13 xs ≡ true → chopped xs ≡ xs
chopped_same [] a = refl
chopped_same (x ∷ []) a = ap (λ b. if b then [] else x ∷ []) (other 13 x (both (nat_lt 13 x) true a).0)
chopped_same (x ∷ y ∷ ys) a = ap (λ t. x ∷ t) (chopped_same (y ∷ ys) (both (nat_lt 13 x) (are_above 13 (y ∷ ys)) a).1)

-- a text has these items, whatever follows it
abbrev pub Reads : List ℕ → List Item → Type 0
Reads text is = (more : List ℕ) → items (text ++ more) ≡ is ++ items more

pub reads_nil : Reads [] []
reads_nil more = refl

pub reads_both : (a b : List ℕ) (x y : List Item) → Reads a x → Reads b y → Reads (a ++ b) (x ++ y)
reads_both a b x y p q more = ap items (append_assoc a b more) ∙ p (b ++ more) ∙ ap (λ is. x ++ is) (q more) ∙ sym (append_assoc x y (items more))

-- a whole text
pub reads_all : (text : List ℕ) (is : List Item) → Reads text is → items text ≡ is
reads_all text is r = ap items (sym (append-nil text)) ∙ r [] ∙ append-nil is

some_item : (line : List ℕ) (item : Item) → 1 ≤ length line → items_at line item ≡ item ∷ []
some_item [] item h = absurd (omega (arith, h))
some_item (x ∷ xs) item h = refl

pub at_most : (n limit : ℕ) → n ≤ limit → nat_le n limit ≡ true
at_most n limit h = grind (arith, nat_tests)

-- the line of a call, by its words
pub reads_line : (line : List ℕ) (words : List (List ℕ)) (op : Op) → are_above 31 line ≡ true → 1 ≤ length line → length line ≤ LINE_BYTES → parts_at 32 line ≡ words → call_in words ≡ Some op
    → Reads (line_of line) (call op ∷ [])
reads_line line words op a some short are is more =
    ap items (append_assoc line (10 ∷ []) more) ∙ ap (flat_map items_of) (lines_joined line more) ∙ flat_map-append items_of (lines line) (lines more)
    ∙ ap (λ ls. flat_map items_of ls ++ items more) (one_part 10 line (above_less 10 31 line (omega arith) a))
    ∙ ap (λ ls. ls ++ items more) (append-nil (items_of line) ∙ item)
  where
    same : chopped line ≡ line
    same = chopped_same line (above_less 13 31 line (omega arith) a)

    told : call_of line ≡ Some op
    told = ap (λ b. if b then call_in (parts_at 32 (chopped line)) else None) (at_most (length line) LINE_BYTES short) ∙ ap (λ l. call_in (parts_at 32 l)) same ∙ ap call_in are ∙ is

    item : items_of line ≡ call op ∷ []
    item = ap (λ l. items_at l (item_of (call_of line))) same ∙ ap (λ o. items_at line (item_of o)) told ∙ some_item line (call op) some
