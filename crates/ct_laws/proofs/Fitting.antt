-- A script that fits is answered as a plain tree answers it.
use Rattle.std.proofs.Common.{◌≡◌, ℕ, zero, suc, ◌+◌, ◌-◌, ◌*◌, ◌<◌, ◌≤◌, List, [], ◌∷◌, ◌++◌, refl, sym, ap, subst, ◌∙◌, inl, inr, arith}
use Rattle.ct_base.specs.Format.{IsFormatted}
use Rattle.ct_base.specs.Free.{HasFreePages}
use Rattle.ct_shell.specs.Binds.{Binds, IsSpace}
use Rattle.ct_shell.specs.Moments.{IsStill, Moment, Passed, Passes, RestsOn}
use Rattle.ct_shell.specs.Served.{Ran}
use Rattle.ct_tree.specs.Runs.{CallAnswers, ForSpace, Item, bad, call}
use Rattle.ct_tree.specs.Step.{Op, answered, effect, refusal, step}
use Rattle.ct_tree.specs.Tree.{Tree, Dir, none, nodes}
use Rattle.ct_tree.specs.declared.call.Refusal.{Refusal}
use Rattle.ct_tree.specs.declared.call.Refusal.TheVariants.{BadPath, NotFound, NotDir, IsDir as IsDirRefusal, Exists, NotEmpty, IntoSelf, IsRoot, TooBig, BadRange, Overlap, TooLong, NoInode, NoPartition, NoPages}
use Rattle.ct_tree.specs.declared.call.Reply.{Reply}
use Rattle.ct_tree.specs.declared.call.Reply.TheVariants.{Done, Data, File as FileOf, Dir as DirOf, Names, At as AtOf, Refused, BadLine}
use Rattle.ct_laws.proofs.Counted.{counted_once}
use Rattle.ct_laws.proofs.Taken.{crowded, fresh_pages, left_after, located, never_refused, not_short}
use Rattle.ct_laws.specs.Enough.{NeverLacksSpace, StaysBelow, plain_pages, touched_in}

-- a refusal for space is one
space_only : (c : ℕ) (t : Tree) (op : Op) (r : Refusal) → ForSpace c t op r → IsSpace r
space_only c t op NoInode is = tt
space_only c t op (NoPartition level) is = tt
space_only c t op (NoPages free need) is = tt
space_only c t op BadPath is = absurd is
space_only c t op NotFound is = absurd is
space_only c t op NotDir is = absurd is
space_only c t op IsDirRefusal is = absurd is
space_only c t op Exists is = absurd is
space_only c t op NotEmpty is = absurd is
space_only c t op IntoSelf is = absurd is
space_only c t op IsRoot is = absurd is
space_only c t op TooBig is = absurd is
space_only c t op BadRange is = absurd is
space_only c t op Overlap is = absurd is
space_only c t op TooLong is = absurd is

-- with space a call leaves the tree of its step
stepped : (c : ℕ) (t : Tree) (op : Op) (reply : Reply) (mid : Tree) → CallAnswers c t op reply mid → ((r : Refusal) → IsSpace r → reply ≡ Refused r → ⊥) → mid ≡ (step t op).1
stepped c t op Done mid is spaced = ap (λ (p : Reply × Tree). p.1) is.0
stepped c t op (Data bytes) mid is spaced = ap (λ (p : Reply × Tree). p.1) is.0
stepped c t op (FileOf size) mid is spaced = ap (λ (p : Reply × Tree). p.1) is.0
stepped c t op (DirOf count) mid is spaced = ap (λ (p : Reply × Tree). p.1) is.0
stepped c t op (Names names) mid is spaced = ap (λ (p : Reply × Tree). p.1) is.0
stepped c t op (AtOf base level) mid is spaced = (located t op base level mid (refusal t op) is).1
stepped c t op (Refused r) mid (inl is) spaced = ap (λ (p : Reply × Tree). p.1) is.0
stepped c t op (Refused r) mid (inr is) spaced = absurd (spaced r (space_only c t op r is.0) refl)
stepped c t op BadLine mid is spaced = ap (λ (p : Reply × Tree). p.1) is.0

-- where no inode is left there are as many nodes
full : (c : ℕ) (t : Tree) (op : Op) (mid : Tree) (words : List ℕ) → CallAnswers c t op (Refused NoInode) mid → Binds words t (call op) (Refused NoInode) → nodes t ≡ c
full c t op mid words (inl is) binds = absurd (never_refused t op NoInode (ap (λ (p : Reply × Tree). p.0) (sym (ap (λ o. answered o t (effect t op)) binds.0) ∙ sym is.0)))
full c t op mid words (inr is) binds = is.0.2

-- one call is not refused for space
has_space : (c : ℕ) (t : Tree) (op : Op) (reply : Reply) (mid : Tree) (from there : Moment) (n : ℕ) → RestsOn c t from → Passed c t (call op) reply mid from there
    → ((count : ℕ) → HasFreePages from.words count → 2 * touched_in t op + 128 + n ≤ count) → nodes t < 502 → nodes t < c → (r : Refusal) → IsSpace r → reply ≡ Refused r → ⊥
has_space c t op reply mid from there n rests passed enough low less NoInode space is =
    let all = full c t op mid from.words (subst (λ q. CallAnswers c t op q mid) is passed.answers) (subst (Binds from.words t (call op)) is passed.binds) in omega (arith, all, less)
has_space c t op reply mid from there n rests passed enough low less (NoPartition level) space is =
    let many = crowded c t op mid from.words level (subst (λ q. CallAnswers c t op q mid) is passed.answers) (subst (Binds from.words t (call op)) is passed.binds) in omega (arith, many, low)
has_space c t op reply mid from there n rests passed enough low less (NoPages free need) space is = not_short rests op reply mid there n free need passed enough is
has_space c t op reply mid from there n rests passed enough low less BadPath space is = space
has_space c t op reply mid from there n rests passed enough low less NotFound space is = space
has_space c t op reply mid from there n rests passed enough low less NotDir space is = space
has_space c t op reply mid from there n rests passed enough low less IsDirRefusal space is = space
has_space c t op reply mid from there n rests passed enough low less Exists space is = space
has_space c t op reply mid from there n rests passed enough low less NotEmpty space is = space
has_space c t op reply mid from there n rests passed enough low less IntoSelf space is = space
has_space c t op reply mid from there n rests passed enough low less IsRoot space is = space
has_space c t op reply mid from there n rests passed enough low less TooBig space is = space
has_space c t op reply mid from there n rests passed enough low less BadRange space is = space
has_space c t op reply mid from there n rests passed enough low less Overlap space is = space
has_space c t op reply mid from there n rests passed enough low less TooLong space is = space

-- what a script that fits needs, on the image and the tree
record Fits (c : ℕ) (t : Tree) (items : List Item) (words : List ℕ) : Type 0 where
  pub pages : (count : ℕ) → HasFreePages words count → plain_pages t items ≤ count
  pub low : StaysBelow 502 t items
  pub less : StaysBelow c t items

never_wants : (c : ℕ) (t left : Tree) (items : List Item) (replies : List Reply) (from to : Moment) → RestsOn c t from → Fits c t items from.words → Passes c t items replies left from to → NeverLacksSpace replies
never_wants c t left [] [] from to rests fits p r space has = omega (arith, has.1)
never_wants c t left [] (reply ∷ replies) from to rests fits p r space has = p
never_wants c t left (item ∷ items) [] from to rests fits p r space has = p
never_wants c t left (call op ∷ items) (reply ∷ replies) from to rests fits p r space (zero, lt, e) =
    has_space c t op reply p.0 from p.1 (plain_pages (step t op).1 items) rests p.2 fits.pages fits.low.0 fits.less.0 r space e
never_wants c t left (call op ∷ items) (reply ∷ replies) from to rests fits p r space (suc k, lt, e) =
    let n = plain_pages (step t op).1 items in
    let same : p.0 ≡ (step t op).1 = stepped c t op reply p.0 p.2.answers (has_space c t op reply p.0 from p.1 n rests p.2 fits.pages fits.low.0 fits.less.0) in
    never_wants c p.0 left items replies p.1 to p.2.rests
    (subst (λ u. Fits c u items p.1.words) (sym same) (record { pages = left_after rests op reply p.0 p.1 n p.2 fits.pages; low = fits.low.1; less = fits.less.1 })) p.3 r space (k, omega (arith, lt), e)
never_wants c t left (bad ∷ items) (reply ∷ replies) from to rests fits p r space (zero, lt, e) = let both : BadLine ≡ Refused r = sym p.2.answers.0 ∙ e in cc
never_wants c t left (bad ∷ items) (reply ∷ replies) from to rests fits p r space (suc k, lt, e) =
    let there : p.1 ≡ from = subst (λ q. IsStill q from p.1) p.2.answers.0 p.2.still in
    let same : p.0 ≡ t = p.2.answers.1 in
    let here : Fits c t items from.words = record { pages = fits.pages; low = fits.low; less = fits.less } in
    never_wants c p.0 left items replies p.1 to p.2.rests (subst (λ u. Fits c u items p.1.words) (sym same) (subst (λ (m : Moment). Fits c t items m.words) (sym there) here)) p.3 r space (k, omega (arith, lt), e)

-- ---- as much of it as is answered

plain_front : (t : Tree) (xs ys : List Item) → plain_pages t xs ≤ plain_pages t (xs ++ ys)
plain_front t [] ys = omega arith
plain_front t (call op ∷ xs) ys = omega (arith, plain_front (step t op).1 xs ys)
plain_front t (bad ∷ xs) ys = plain_front t xs ys

below_front : (most : ℕ) (t : Tree) (xs ys : List Item) → StaysBelow most t (xs ++ ys) → StaysBelow most t xs
below_front most t [] ys below = tt
below_front most t (call op ∷ xs) ys below = (below.0, below_front most (step t op).1 xs ys below.1)
below_front most t (bad ∷ xs) ys below = below_front most t xs ys below

pub script_fits : (c pages : ℕ) (left : Tree) (script rest : List Item) (replies : List Reply) (from to : Moment) → RestsOn c (Dir none) from → IsFormatted from.words pages c
    → 256 + plain_pages (Dir none) script ≤ pages → StaysBelow 502 (Dir none) script → StaysBelow c (Dir none) script → Ran c (Dir none) left script rest replies from to → NeverLacksSpace replies
script_fits c pages left script rest replies from to rests made enough low less ran =
    let free : HasFreePages from.words (pages - 42) = fresh_pages made (omega (arith, enough)) in
    let split : plain_pages (Dir none) script ≡ plain_pages (Dir none) (ran.done ++ rest) = ap (plain_pages (Dir none)) ran.split in
    let front = plain_front (Dir none) ran.done rest in
    never_wants c (Dir none) left ran.done replies from to rests
    (record {
      pages = λ count other. omega (arith, counted_once from.words count (pages - 42) other free, enough, split, front);
      low = below_front 502 (Dir none) ran.done rest (subst (StaysBelow 502 (Dir none)) ran.split low);
      less = below_front c (Dir none) ran.done rest (subst (StaysBelow c (Dir none)) ran.split less);
    }) ran.passes
