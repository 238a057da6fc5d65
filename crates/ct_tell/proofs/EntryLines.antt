-- The lines of a directory's entries, one after another, and the slots that they come from.
use Rattle.std.proofs.Common.{◌≡◌, ◌≢◌, ◌∙◌, ℕ, zero, suc, ◌+◌, ◌*◌, ◌%◌, ◌≤◌, Bool, true, false, List, [], ◌∷◌, ◌++◌, length, length-append, take, Option, Some, None, refl, sym, ap, subst, append_assoc, append-nil, arith}
use Rattle.std.specs.Prelude.{codes, if◌then◌else◌, slice_get}
use Rattle.std.specs.Fmt.{decimal}
use Rattle.percent_encoding.specs.Percent.{percent_encode_byte}
use Rattle.ct_script.specs.Texts.{escaped, escaped_byte, is_escaped}
use Rattle.std.specs.Io.KnownBytes.{Appends}
use Rattle.ct_base.specs.Inode.{IsLive, inode}
use Rattle.ct_base.specs.Named.{Named}
use Rattle.ct_base.specs.Objects.{Object}
use Rattle.ct_base.specs.Rules.{names as names_apart, slots as slots_name}
use Rattle.ct_base.specs.Slots.{IsSlot, entries, slot_inode, slot_name}
use Rattle.ct_base.specs.View.{inode_count, view}
use Rattle.ct_base.specs.declared.inode.Inode.{Inode}
use Rattle.ct_commit.specs.Rest.{IsAtRest}
use Rattle.ct_dir.specs.Directory.{IsLater, IsNext, IsReadable, dir_of}
use Rattle.ct_find.proofs.Living.{dir_is, kind_is, placed_at, readable_at, size_is}
use Rattle.ct_look.proofs.Listed.{no_slot_next, slot_next, slots_counted}
use Rattle.ct_look.specs.Looks.{next_name}
use Rattle.ct_path.proofs.Sounds.{is_live}
use Rattle.ct_script.proofs.Puts.{appends_nil, appends_then, fault_after}
use Rattle.ct_tell.proofs.NextNames.{first_name, next_later}
use Rattle.ct_tree.specs.Lands.{files}
use Rattle.ct_tree.specs.Ordered.{AreEntries, IsTree}
use Rattle.ct_tree.specs.Stands.{StandIn, Stands}
use Rattle.ct_tree.specs.Step.{count, names_in}
use Rattle.ct_tree.specs.Tree.{Tree, File, Dir, Entries, none, entry}
use Rattle.ct_tell.specs.Texts.{entry_line, kind_text, list_text}

byte_short : (b : ℕ) (t : Bool) → length (if t then percent_encode_byte b else b ∷ []) ≤ 3
unfolding percent_encode_byte
byte_short b true = omega arith
byte_short b false = omega arith

-- an escaped name is at most three times as long
pub escaped_short : (name : List ℕ) → length (escaped name) ≤ 3 * length name
escaped_short [] = omega arith
escaped_short (b ∷ name) = omega (arith, byte_short b (is_escaped b), escaped_short name, length-append (escaped_byte b) (escaped name))

-- the lines of the first entries
unfoldable pub lines_to : Entries → ℕ → List ℕ
lines_to none n = []
lines_to (entry x node rest) zero = []
lines_to (entry x node rest) (suc n) = entry_line x node ++ lines_to rest n

no_lines : (es : Entries) → lines_to es 0 ≡ []
unfolding lines_to
no_lines none = refl
no_lines (entry x node rest) = refl

-- the entry with a number has this name, and a node for which an object stands to which a slot leads
pub record IsThere (fs : ℕ → Object) (f : Object) (es : Entries) (n : ℕ) (x : List ℕ) : Type 0 where
  pub node : Tree
  pub tree : IsTree node
  pub slot : Named f x
  pub stands : Stands fs (slot_inode f slot.offset) node
  pub behind : List ℕ
  pub more : lines_to es (n + 1) ≡ lines_to es n ++ entry_line x node
  pub whole : list_text es ≡ lines_to es n ++ (entry_line x node ++ behind)

pub entry_there : (fs : ℕ → Object) (f : Object) (es : Entries) → AreEntries es → StandIn fs f es → (n : ℕ) (x : List ℕ) → slice_get (names_in es) n ≡ Some x → IsThere fs f es n x
unfolding lines_to
entry_there fs f none are st n x is = absurd (cc)
entry_there fs f (entry y node rest) are st zero x is =
    let same : y ≡ x = cc in
    let here : IsThere fs f (entry y node rest) zero y =
    record {
      node = node;
      tree = are.1;
      slot = st.0.0;
      stands = st.0.1;
      behind = list_text rest;
      more = ap (λ t. entry_line y node ++ t) (no_lines rest) ∙ append-nil (entry_line y node);
      whole = refl;
    } in
    subst (IsThere fs f (entry y node rest) zero) same here
entry_there fs f (entry y node rest) are st (suc n) x is =
    let r = entry_there fs f rest are.3 st.1 n x is in
    let one : suc n + 1 ≡ suc (n + 1) = omega arith in
    record {
      node = r.node;
      tree = r.tree;
      slot = r.slot;
      stands = r.stands;
      behind = r.behind;
      more = ap (lines_to (entry y node rest)) one ∙ ap (λ t. entry_line y node ++ t) r.more ∙ sym (append_assoc (entry_line y node) (lines_to rest n) (entry_line x r.node));
      whole = ap (λ t. entry_line y node ++ t) r.whole ∙ sym (append_assoc (entry_line y node) (lines_to rest n) (entry_line x r.node ++ r.behind));
    }

all_lines : (es : Entries) (n : ℕ) → slice_get (names_in es) n ≡ None → lines_to es n ≡ list_text es
unfolding lines_to
all_lines none n is = refl
all_lines (entry x node rest) zero is = absurd (cc)
all_lines (entry x node rest) (suc n) is = ap (λ t. entry_line x node ++ t) (all_lines rest n is)

past_all : (es : Entries) (n : ℕ) → count es ≤ n → slice_get (names_in es) n ≡ None
past_all none n le = refl
past_all (entry x node rest) zero le = absurd (omega (arith, le))
past_all (entry x node rest) (suc n) le = past_all rest n (omega (arith, le))

-- so many lines are written, and the next name is the one that follows the last of them
pub record IsListed (es : Entries) (n : ℕ) (last old new : Option (List ℕ)) : Type 0 where
  pub lines : Appends old new (lines_to es n)
  pub next : next_name last (names_in es) ≡ slice_get (names_in es) n

pub listed_start : (es : Entries) (old : Option (List ℕ)) → IsListed es 0 None old old
listed_start es old = record { lines = subst (Appends old old) (sym (no_lines es)) (appends_nil old); next = first_name (names_in es) }

-- where no name follows, all are written
pub listed_all : (es : Entries) (n : ℕ) (last old new : Option (List ℕ)) → IsListed es n last old new → next_name last (names_in es) ≡ None → Appends old new (list_text es)
listed_all es n last old new listed off = subst (Appends old new) (all_lines es n (sym listed.next ∙ off)) listed.lines

pub listed_past : (es : Entries) (n : ℕ) (last old new : Option (List ℕ)) → IsListed es n last old new → count es ≤ n → Appends old new (list_text es)
listed_past es n last old new listed le = subst (Appends old new) (all_lines es n (past_all es n le)) listed.lines

module _ {fs : ℕ → Object} {f : Object} {es : Entries} {n : ℕ} {x : List ℕ} (there : IsThere fs f es n x) (last old mid new : Option (List ℕ)) (listed : IsListed es n last old mid) where
  pub listed_more : AreEntries es → slice_get (names_in es) n ≡ Some x → Appends mid new (entry_line x there.node) → IsListed es (n + 1) (Some x) old new
  listed_more are is put = record {
    lines = subst (Appends old new) (sym there.more) (appends_then old mid new (lines_to es n) (entry_line x there.node) listed.lines put);
    next = next_later es n x are is;
  }

  -- a line of which a part is written
  pub listed_torn : (k : ℕ) × Appends mid new (take k (entry_line x there.node)) → (m : ℕ) × Appends old new (take m (list_text es))
  listed_torn part = subst (λ t. (m : ℕ) × Appends old new (take m t)) (sym there.whole) (fault_after old mid new (lines_to es n) (entry_line x there.node) there.behind listed.lines part)

-- ---- a directory of an image at rest

module _ {w : List ℕ} {number : ℕ} {dir : Inode} (rest : IsAtRest w) (live : IsLive (view w) (inode_count w) number) (is : inode (view w) number ≡ dir) (kind : dir.kind ≡ 2) where
  pub dir_read : IsReadable w dir
  dir_read = readable_at rest live is kind

  f_is : dir_of w dir ≡ files w number
  f_is = dir_is rest live is

  -- what a slot names is live
  pub child_live : (o c : ℕ) → IsSlot (dir_of w dir) o → slot_inode (dir_of w dir) o ≡ c → IsLive (view w) (inode_count w) c
  child_live o c slot named =
      let there : IsSlot (files w number) o = subst (λ f. IsSlot f o) f_is slot in
      let on : slot_inode (files w number) o ≡ c = ap (λ (f : Object). slot_inode f o) (sym f_is) ∙ named in
      is_live w rest.sound rest.head.inodes.1 c (λ z. (rest.sound slots_name number o there).live (ap (λ (i : ℕ). (files w i).kind) on ∙ z))

  module _ (es : Entries) (st : Stands (files w) number (Dir es)) where
    -- there are as many entries as slots that are used
    pub counted : AreEntries es → (n : ℕ) → n ≡ length (entries (dir_of w dir)) → n ≡ count es
    counted are n len =
        len ∙ ap (λ (f : Object). length (entries f)) f_is
        ∙ slots_counted (files w) (files w number) es are st.0 st.1 (rest.sound names_apart number) (ap (λ k. k % 256) (size_is rest live is) ∙ (placed_at rest live is).slots kind)

    pub next_is : AreEntries es → (after : Option (List ℕ)) (o : ℕ) (x : List ℕ) → x ≡ slot_name (dir_of w dir) o → IsNext (dir_of w dir) after o → next_name after (names_in es) ≡ Some x
    next_is are after o x name next =
        slot_next (files w) (files w number) es st.0 st.1 after are o (subst (λ f. IsNext f after o) f_is next)
        ∙ ap Some (ap (λ (f : Object). slot_name f o) (sym f_is) ∙ sym name)

    pub none_next : (after : Option (List ℕ)) → ((o : ℕ) → IsSlot (dir_of w dir) o → IsLater after (slot_name (dir_of w dir) o) → ⊥) → next_name after (names_in es) ≡ None
    none_next after off = no_slot_next (files w) (files w number) es st.0 st.1 after (subst (λ f. (o : ℕ) → IsSlot f o → IsLater after (slot_name f o) → ⊥) f_is off)

    -- the inode that a slot names stands for the node of the entry with its name
    pub child_stands : (n o c : ℕ) (x : List ℕ) (there : IsThere (files w) (files w number) es n x) → IsSlot (dir_of w dir) o → x ≡ slot_name (dir_of w dir) o → slot_inode (dir_of w dir) o ≡ c → Stands (files w) c there.node
    child_stands n o c x there slot name named =
        let here : IsSlot (files w number) o = subst (λ f. IsSlot f o) f_is slot in
        let same : there.slot.offset ≡ o = rest.sound names_apart number there.slot.offset o there.slot.slot here (there.slot.name ∙ name ∙ ap (λ (f : Object). slot_name f o) f_is) in
        let on : slot_inode (files w number) there.slot.offset ≡ c = ap (λ (k : ℕ). slot_inode (files w number) k) same ∙ ap (λ (f : Object). slot_inode f o) (sym f_is) ∙ named in
        subst (λ i. Stands (files w) i there.node) on there.stands

    pub entry_at : AreEntries es → (n : ℕ) (x : List ℕ) → slice_get (names_in es) n ≡ Some x → IsThere (files w) (files w number) es n x
    entry_at are n x at = entry_there (files w) (files w number) es are st.1 n x at

-- ---- what an entry is

module _ {w : List ℕ} {number : ℕ} {f : Inode} (rest : IsAtRest w) (live : IsLive (view w) (inode_count w) number) (is : inode (view w) number ≡ f) where
  pub kind_dir : f.kind ≡ 2 → (n : ℕ) → n ≡ length (entries (dir_of w f)) → (node : Tree) → IsTree node → Stands (files w) number node → codes "d " ++ decimal n ≡ kind_text node
  kind_dir kind n len (File bytes) tree st = absurd (omega (arith, kind, kind_is rest live is, st.kind))
  kind_dir kind n len (Dir es) tree st = ap (λ k. codes "d " ++ decimal k) (counted rest live is kind es st tree n len)

  pub kind_file : f.kind ≢ 2 → (node : Tree) → IsTree node → Stands (files w) number node → codes "f " ++ decimal f.size ≡ kind_text node
  kind_file other (File bytes) tree st = ap (λ k. codes "f " ++ decimal k) (sym (size_is rest live is) ∙ st.size)
  kind_file other (Dir es) tree st = absurd (other (sym (kind_is rest live is) ∙ st.0.kind))
