-- What the calls of a script take, one after another.
use Rattle.std.proofs.Common.{◌≡◌, ℕ, zero, suc, ◌+◌, ◌-◌, ◌*◌, ◌<◌, ◌≤◌, List, [], ◌∷◌, length, Option, Some, None, Result, Ok, Err, refl, sym, ap, subst, ◌∙◌, ◌⊎◌, inl, inr, arith}
use Rattle.std.proofs.lemmas.Bool.{cases_lt}
use Rattle.ct_base.specs.Format.{IsFormatted}
use Rattle.ct_base.specs.Free.{HasFreePages}
use Rattle.ct_base.specs.Inode.{IsNumber}
use Rattle.ct_base.specs.Objects.{Object}
use Rattle.ct_base.specs.Plan.{first_free_number}
use Rattle.ct_base.specs.Rules.{inodes}
use Rattle.ct_base.specs.View.{view, inode_count}
use Rattle.ct_base.specs.Wants.{missing}
use Rattle.ct_call.specs.Answers.{CanStart, LacksPages}
use Rattle.ct_call.specs.Placed.{Places}
use Rattle.ct_format.proofs.Fresh.{fresh_free, length-rising}
use Rattle.ct_frames.specs.Free.{rising}
use Rattle.ct_shell.specs.Binds.{Binds, BindsRefusal}
use Rattle.ct_shell.specs.Moments.{IsStill, Moment, Passed, Passes, PlacesOf, RestsOn}
use Rattle.ct_state.proofs.Bytes.{objects-in}
use Rattle.ct_state.proofs.LiveNodes.{some_room}
use Rattle.ct_state.proofs.Plans.{plan_there}
use Rattle.ct_tree.proofs.Steps.{IsRooted, first_none}
use Rattle.ct_tree.specs.Checks.{above, at, bad_path, no_file}
use Rattle.ct_tree.specs.Lands.{files}
use Rattle.ct_tree.specs.Need.{HasNeed}
use Rattle.ct_tree.specs.Resolve.{IsDir}
use Rattle.ct_tree.specs.Runs.{CallAnswers, Item, Locates, MakesNode, bad, call}
use Rattle.ct_tree.specs.Stands.{Stands}
use Rattle.ct_tree.specs.Step.{Op, create, mkdir, write, fill, append, read, truncate, unlink, rmdir, rename, exchange, stat, list, locate, answered, effect, file_limit, refusal, size_at, step, told}
use Rattle.ct_tree.specs.Tree.{Tree, File, Dir, none, nodes}
use Rattle.ct_tree.specs.declared.call.Refusal.{Refusal}
use Rattle.ct_tree.specs.declared.call.Refusal.TheVariants.{TooBig, NoPartition, NoPages}
use Rattle.ct_tree.specs.declared.call.Reply.{Reply}
use Rattle.ct_tree.specs.declared.call.Reply.TheVariants.{Done, Data, File as FileOf, Dir as DirOf, Names, At as AtOf, Refused, BadLine}
use Rattle.ct_laws.proofs.Bounded.{keeps_limits, need_bounded, size_is}
use Rattle.ct_laws.proofs.Counted.{counted, counted_once}
use Rattle.ct_laws.specs.Bounds.{Touches, pages_written}
use Rattle.ct_laws.specs.Enough.{LacksPartitionsCrowded, NeverLacksPages, most_pages, touched_in, tree_after}

-- ---- the tree after a call

-- a call that is not refused has another reply
never_told : (n : Result Tree Refusal) (r : Refusal) → told n ≡ Refused r → ⊥
never_told (Err e) r is = cc
never_told (Ok (File bytes)) r is = cc
never_told (Ok (Dir es)) r is = cc

pub never_refused : (t : Tree) (op : Op) (r : Refusal) → (effect t op).0 ≡ Refused r → ⊥
never_refused t (create path) r is = cc
never_refused t (mkdir path) r is = cc
never_refused t (write path off bytes) r is = cc
never_refused t (fill path off len byte) r is = cc
never_refused t (append path bytes) r is = cc
never_refused t (read path off len) r is = cc
never_refused t (truncate path len) r is = cc
never_refused t (unlink path) r is = cc
never_refused t (rmdir path) r is = cc
never_refused t (rename path to) r is = cc
never_refused t (exchange path off other other_off len) r is = cc
never_refused t (stat path) r is = never_told (at t path) r is
never_refused t (list path) r is = cc
never_refused t (locate path) r is = cc

-- a call that does not answer ok leaves the tree
effect_leaves : (t : Tree) (op : Op) → ((effect t op).0 ≡ Done) ⊎ ((effect t op).1 ≡ t)
effect_leaves t (create path) = inl refl
effect_leaves t (mkdir path) = inl refl
effect_leaves t (write path off bytes) = inl refl
effect_leaves t (fill path off len byte) = inl refl
effect_leaves t (append path bytes) = inl refl
effect_leaves t (read path off len) = inr refl
effect_leaves t (truncate path len) = inl refl
effect_leaves t (unlink path) = inl refl
effect_leaves t (rmdir path) = inl refl
effect_leaves t (rename path to) = inl refl
effect_leaves t (exchange path off other other_off len) = inl refl
effect_leaves t (stat path) = inr refl
effect_leaves t (list path) = inr refl
effect_leaves t (locate path) = inr refl

step_leaves : (t : Tree) (op : Op) (o : Option Refusal) → ((answered o t (effect t op)).0 ≡ Done) ⊎ ((answered o t (effect t op)).1 ≡ t)
step_leaves t op None = effect_leaves t op
step_leaves t op (Some r) = inr refl

leaves : (t : Tree) (op : Op) (reply : Reply) (mid : Tree) → (reply ≡ Done → ⊥) → (reply, mid) ≡ step t op → mid ≡ t
leaves t op reply mid other is = elim (step_leaves t op (refusal t op)) [
  | inl done ↦ absurd (other (ap (λ (p : Reply × Tree). p.0) is ∙ done))
  | inr same ↦ ap (λ (p : Reply × Tree). p.1) is ∙ same
]

-- to tell where a file lies changes nothing
pub located : (t : Tree) (op : Op) (base level : ℕ) (mid : Tree) (o : Option Refusal) → Locates t op base level mid → (mid ≡ t) × (mid ≡ (answered o t (effect t op)).1)
located t (create path) base level mid o is = absurd is
located t (mkdir path) base level mid o is = absurd is
located t (write path off bytes) base level mid o is = absurd is
located t (fill path off len byte) base level mid o is = absurd is
located t (append path bytes) base level mid o is = absurd is
located t (read path off len) base level mid o is = absurd is
located t (truncate path len) base level mid o is = absurd is
located t (unlink path) base level mid o is = absurd is
located t (rmdir path) base level mid o is = absurd is
located t (rename path to) base level mid o is = absurd is
located t (exchange path off other other_off len) base level mid o is = absurd is
located t (stat path) base level mid o is = absurd is
located t (list path) base level mid o is = absurd is
located t (locate path) base level mid None is = (is.2, is.2)
located t (locate path) base level mid (Some r) is = (is.2, is.2)

left_is : (c : ℕ) (t : Tree) (op : Op) (reply : Reply) (mid : Tree) → CallAnswers c t op reply mid → mid ≡ tree_after t op reply
left_is c t op Done mid is = ap (λ (p : Reply × Tree). p.1) is.0
left_is c t op (Data bytes) mid is = leaves t op (Data bytes) mid (λ same. cc) is.0
left_is c t op (FileOf size) mid is = leaves t op (FileOf size) mid (λ same. cc) is.0
left_is c t op (DirOf count) mid is = leaves t op (DirOf count) mid (λ same. cc) is.0
left_is c t op (Names names) mid is = leaves t op (Names names) mid (λ same. cc) is.0
left_is c t op (AtOf base level) mid is = (located t op base level mid (refusal t op) is).0
left_is c t op (Refused r) mid (inl is) = leaves t op (Refused r) mid (λ same. cc) is.0
left_is c t op (Refused r) mid (inr is) = is.1
left_is c t op BadLine mid is = leaves t op BadLine mid (λ same. cc) is.0

-- ---- what one call takes

-- it is done, or nothing has changed
pub still_or_done : (t : Tree) (op : Op) (reply : Reply) (from there : Moment) → IsStill reply from there → (reply ≡ Done) ⊎ (there ≡ from)
still_or_done t op Done from there still = inl refl
still_or_done t op (Data bytes) from there still = inr still
still_or_done t op (FileOf size) from there still = inr still
still_or_done t op (DirOf count) from there still = inr still
still_or_done t op (Names names) from there still = inr still
still_or_done t op (AtOf base level) from there still = inr still
still_or_done t op (Refused r) from there still = inr still
still_or_done t op BadLine from there still = inr still

module _ {c : ℕ} {t : Tree} {from : Moment} (rests : RestsOn c t from) where
  some : 2 ≤ inode_count from.words
  some = rests.holds.rest.head.inodes.0

  first : IsNumber (inode_count from.words) 1
  first = record { from = omega arith; to = omega (arith, some) }

  root_is : (u : Tree) → Stands (files from.words) 1 u → IsDir u
  root_is (File bytes) is =
      absurd (omega (arith, is.kind, ap (λ (o : Object). o.kind) (objects-in (view from.words) (inode_count from.words) 1 first), (rests.holds.rest.sound inodes 1 first).root refl))
  root_is (Dir es) is = tt

  rooted : IsRooted t
  rooted = record { tree = rests.holds.stands.tree; dir = root_is t rests.holds.stands.stands }

  touches : (op : Op) → refusal t op ≡ None → Touches from.words op (touched_in t op)
  touches (create path) allowed = refl
  touches (mkdir path) allowed = refl
  touches (write path off bytes) allowed = refl
  touches (fill path off len byte) allowed = refl
  touches (append path bytes) allowed = λ i leads.
      let one = first_none (bad_path path) (no_file (at t path) ∷ above (size_at t path + length bytes) file_limit TooBig ∷ []) allowed in
      let two = first_none (no_file (at t path)) (above (size_at t path + length bytes) file_limit TooBig ∷ []) one.1 in
      ap (λ n. pages_written n (length bytes)) (sym (size_is from.words rests.holds.rest.sound some t rooted rests.holds.stands.stands i path leads two.0))
  touches (read path off len) allowed = refl
  touches (truncate path len) allowed = refl
  touches (unlink path) allowed = refl
  touches (rmdir path) allowed = refl
  touches (rename path to) allowed = refl
  touches (exchange path off other other_off len) allowed = refl
  touches (stat path) allowed = refl
  touches (list path) allowed = refl
  touches (locate path) allowed = refl

  few : (op : Op) (need : ℕ) → refusal t op ≡ None → HasNeed from.words op need → need ≤ 2 * touched_in t op + 128
  few op need allowed has =
      need_bounded from.words rests.holds.rest.sound some op need (touched_in t op)
      (keeps_limits from.words rests.holds.rest.sound some t rooted rests.holds.stands.stands op allowed) has (touches op allowed)

  has_need : (op : Op) → CanStart from.words t op → (need : ℕ) × HasNeed from.words op need
  has_need op can =
      let plan = plan_there from.words t rests.holds.rest.sound rests.holds.stands.tree rests.holds.stands.stands op can.allowed (λ node. room node (first_free_number (view from.words) (inode_count from.words)) refl) in
      (missing from.words plan.0.wants, (plan.0, plan.1, refl))
    where
      room : MakesNode op → (o : Option ℕ) → first_free_number (view from.words) (inode_count from.words) ≡ o → nodes t < inode_count from.words
      room node None is = absurd (can.inode (node, is))
      room node (Some i) is = some_room from.words t rests.holds.rest.sound rests.holds.stands.tree rests.holds.stands.stands i is

  -- what is left where a call is done
  left_done : (op : Op) (there : Moment) (n : ℕ) → CanStart from.words t op → Places from.words there.words op → ((count : ℕ) → HasFreePages from.words count → 2 * touched_in t op + 128 + n ≤ count)
      → (count : ℕ) → HasFreePages there.words count → n ≤ count
  left_done op there n can places enough count has = elim (cases_lt count n) [
    | inl short ↦ absurd (counted from.words (λ before free.
        let need = has_need op can in
        omega (arith, short, enough before free, few op need.0 can.allowed need.1, places.taken before count need.0 free has need.1)))
    | inr much ↦ much
  ]

  pub left_after : (op : Op) (reply : Reply) (mid : Tree) (there : Moment) (n : ℕ) → Passed c t (call op) reply mid from there
      → ((count : ℕ) → HasFreePages from.words count → 2 * touched_in t op + 128 + n ≤ count) → (count : ℕ) → HasFreePages there.words count → n ≤ count
  left_after op reply mid there n passed enough count has = elim (still_or_done t op reply from there passed.still) [
    | inl done ↦
        left_done op there n (subst (Binds from.words t (call op)) done passed.binds) (subst (λ r. PlacesOf (call op) r from.words there.words) done passed.placed) enough count has
    | inr same ↦ omega (arith, enough count (subst (λ (m : Moment). HasFreePages m.words count) same has))
  ]

  -- it is not refused
  pub not_short : (op : Op) (reply : Reply) (mid : Tree) (there : Moment) (n free need : ℕ) → Passed c t (call op) reply mid from there
      → ((count : ℕ) → HasFreePages from.words count → 2 * touched_in t op + 128 + n ≤ count) → reply ≡ Refused (NoPages free need) → ⊥
  not_short op reply mid there n free need passed enough is =
      let binds : BindsRefusal from.words t op (NoPages free need) = subst (Binds from.words t (call op)) is passed.binds in
      let lacks : LacksPages from.words op free need = binds.1.2 in
      omega (arith, enough free lacks.0, few op need binds.0 lacks.1, lacks.2)

-- ---- what they take one after another

pub never_short : (c : ℕ) (t left : Tree) (items : List Item) (replies : List Reply) (from to : Moment) → RestsOn c t from → ((count : ℕ) → HasFreePages from.words count → most_pages t items replies ≤ count)
    → Passes c t items replies left from to → NeverLacksPages replies
never_short c t left [] [] from to rests enough p free need has = omega (arith, has.1)
never_short c t left [] (reply ∷ replies) from to rests enough p free need has = p
never_short c t left (item ∷ items) [] from to rests enough p free need has = p
never_short c t left (call op ∷ items) (reply ∷ replies) from to rests enough p free need (zero, lt, e) = not_short rests op reply p.0 p.1 (most_pages (tree_after t op reply) items replies) free need p.2 enough e
never_short c t left (call op ∷ items) (reply ∷ replies) from to rests enough p free need (suc k, lt, e) =
    let same : p.0 ≡ tree_after t op reply = left_is c t op reply p.0 p.2.answers in
    never_short c p.0 left items replies p.1 to p.2.rests
    (subst (λ u. (count : ℕ) → HasFreePages p.1.words count → most_pages u items replies ≤ count) (sym same) (left_after rests op reply p.0 p.1 (most_pages (tree_after t op reply) items replies) p.2 enough))
    p.3 free need (k, omega (arith, lt), e)
never_short c t left (bad ∷ items) (reply ∷ replies) from to rests enough p free need (zero, lt, e) = let both : BadLine ≡ Refused (NoPages free need) = sym p.2.answers.0 ∙ e in cc
never_short c t left (bad ∷ items) (reply ∷ replies) from to rests enough p free need (suc k, lt, e) =
    let there : p.1 ≡ from = subst (λ r. IsStill r from p.1) p.2.answers.0 p.2.still in
    let same : p.0 ≡ t = p.2.answers.1 in
    never_short c p.0 left items replies p.1 to p.2.rests
    (subst (λ u. (count : ℕ) → HasFreePages p.1.words count → most_pages u items replies ≤ count) (sym same) (subst (λ (m : Moment). (count : ℕ) → HasFreePages m.words count → most_pages t items replies ≤ count) (sym there) enough))
    p.3 free need (k, omega (arith, lt), e)

pub free_suffice : (c free : ℕ) (t left : Tree) (items : List Item) (replies : List Reply) (from to : Moment) → RestsOn c t from → HasFreePages from.words free → most_pages t items replies ≤ free
    → Passes c t items replies left from to → NeverLacksPages replies
free_suffice c free t left items replies from to rests has enough p = never_short c t left items replies from to rests (λ count other. omega (arith, counted_once from.words count free other has, enough)) p

-- a format leaves all pages but 42
pub fresh_pages : {img : List ℕ} {pages n : ℕ} → IsFormatted img pages n → 256 ≤ pages → HasFreePages img (pages - 42)
fresh_pages {pages = pages} made many = record { pages = rising (pages - 42) 42; are = fresh_free made many; many = length-rising (pages - 42) 42 }

pub format_suffices : (c pages : ℕ) (left : Tree) (items : List Item) (replies : List Reply) (from to : Moment) → RestsOn c (Dir none) from → IsFormatted from.words pages c
    → 256 + most_pages (Dir none) items replies ≤ pages → Passes c (Dir none) items replies left from to → NeverLacksPages replies
format_suffices c pages left items replies from to rests made enough p =
    free_suffice c (pages - 42) (Dir none) left items replies from to rests (fresh_pages made (omega (arith, enough))) (omega (arith, enough)) p

-- ---- partitions

pub crowded : (c : ℕ) (t : Tree) (op : Op) (mid : Tree) (words : List ℕ) (level : ℕ) → CallAnswers c t op (Refused (NoPartition level)) mid → Binds words t (call op) (Refused (NoPartition level)) → 502 ≤ nodes t
crowded c t op mid words level (inl is) binds =
    absurd (never_refused t op (NoPartition level) (ap (λ (p : Reply × Tree). p.0) (sym (ap (λ o. answered o t (effect t op)) binds.0) ∙ sym is.0)))
crowded c t op mid words level (inr is) binds = is.0.2

pub crowded_all : (c : ℕ) (t left : Tree) (items : List Item) (replies : List Reply) (from to : Moment) → Passes c t items replies left from to → LacksPartitionsCrowded t items replies
crowded_all c t left [] [] from to p = tt
crowded_all c t left [] (reply ∷ replies) from to p = tt
crowded_all c t left (call op ∷ items) [] from to p = tt
crowded_all c t left (bad ∷ items) [] from to p = tt
crowded_all c t left (call op ∷ items) (reply ∷ replies) from to p = (
  λ level is. crowded c t op p.0 from.words level (subst (λ r. CallAnswers c t op r p.0) is p.2.answers) (subst (Binds from.words t (call op)) is p.2.binds),
  subst (λ u. LacksPartitionsCrowded u items replies) (left_is c t op reply p.0 p.2.answers) (crowded_all c p.0 left items replies p.1 to p.3),
)
crowded_all c t left (bad ∷ items) (reply ∷ replies) from to p =
    subst (λ u. LacksPartitionsCrowded u items replies) p.2.answers.1 (crowded_all c p.0 left items replies p.1 to p.3)
