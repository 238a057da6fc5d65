-- Holes are stepped over, and what is read in them is 0.
use Rattle.std.proofs.Common.{◌≡◌, ◌≢◌, ℕ, ◌+◌, ◌-◌, ◌*◌, ◌/◌, ◌%◌, ◌<◌, ◌≤◌, List, Ok, Option, Some, None, length, refl, sym, ap, ◌∙◌, subst, arith}
use Rattle.std.specs.Prelude.{slice_index}
use Rattle.ct_base.specs.declared.inode.Inode.{Inode}
use Rattle.ct_base.specs.Inode.{inode}
use Rattle.ct_base.specs.Objects.{Object}
use Rattle.ct_base.specs.View.{view}
use Rattle.ct_base.specs.Walk.{byte, byte_in, index, next, walk}
use Rattle.ct_commit.proofs.Pages.{base_whole}
use Rattle.ct_call.specs.Calls.{StandsFor}
use Rattle.ct_commit.specs.Rest.{IsAtRest}
use Rattle.ct_image.proofs.Steps.{next-zero}
use Rattle.ct_walk.proofs.Entries.{some_page-is, some_page-none}
use Rattle.ct_walk.specs.Pages.{some_page}
use Rattle.ct_tree.specs.Checks.{at, no_file}
use Rattle.ct_tree.specs.Content.{bytes_in}
use Rattle.ct_tree.specs.Step.{locate, refusal}
use Rattle.ct_tree.specs.Tree.{Tree, File}
use Rattle.ct_find.proofs.Leading.{checked_by, file_node}
use Rattle.ct_find.proofs.Living.{dir_is, size_is}
use Rattle.ct_find.specs.Nodes.{IsNodeAt}
use Rattle.ct_look.proofs.Reading.{content_byte, room_of}
use Rattle.ct_look.specs.Holes.{AreUnmapped, IsHole, IsMappedAt, IsNextData, IsNextMapped}

-- a step that gives no page
pub absent : (found : Option ℕ) (page : ℕ) → found ≡ some_page page → ((x : ℕ) → found ≡ Some x → ⊥) → None ≡ some_page page
absent None page is off = is
absent (Some x) page is off = absurd (off x refl)

-- an entry that names no page leads no address of its span to one
module _ (img : List ℕ) (a : ℕ) where
  pub past_root : None ≡ some_page (next img 33 (a / 549755813888 % 512)) → IsHole img a ((a / 549755813888 + 1) * 549755813888)
  past_root off = record { later = omega arith; near = omega arith; whole = omega arith; empty = λ v low high. gone v (omega arith) }
    where
      gone : (v : ℕ) → v / 549755813888 ≡ a / 549755813888 → walk img v ≡ 0
      gone v same =
          let none = some_page-none (next img 33 (a / 549755813888 % 512)) off in
          cc (none, same, next-zero img (index 3 v), next-zero img (index 2 v), next-zero img (index 1 v))

  module _ (third : ℕ) (at_third : Some third ≡ some_page (next img 33 (a / 549755813888 % 512))) where
    third_is : next img 33 (a / 549755813888 % 512) ≡ third
    third_is = (some_page-is third (next img 33 (a / 549755813888 % 512)) at_third).0

    pub past_third : None ≡ some_page (next img third (a / 1073741824 % 512)) → IsHole img a ((a / 1073741824 + 1) * 1073741824)
    past_third off = record { later = omega arith; near = omega arith; whole = omega arith; empty = λ v low high. gone v (omega arith) (omega arith) }
      where
        gone : (v : ℕ) → v / 549755813888 ≡ a / 549755813888 → v / 1073741824 ≡ a / 1073741824 → walk img v ≡ 0
        gone v up same =
            let none = some_page-none (next img third (a / 1073741824 % 512)) off in
            cc (none, up, same, third_is, next-zero img (index 2 v), next-zero img (index 1 v))

    module _ (second : ℕ) (at_second : Some second ≡ some_page (next img third (a / 1073741824 % 512))) where
      second_is : next img third (a / 1073741824 % 512) ≡ second
      second_is = (some_page-is second (next img third (a / 1073741824 % 512)) at_second).0

      pub past_second : None ≡ some_page (next img second (a / 2097152 % 512)) → IsHole img a ((a / 2097152 + 1) * 2097152)
      past_second off = record { later = omega arith; near = omega arith; whole = omega arith; empty = λ v low high. gone v (omega arith) (omega arith) (omega arith) }
        where
          gone : (v : ℕ) → v / 549755813888 ≡ a / 549755813888 → v / 1073741824 ≡ a / 1073741824 → v / 2097152 ≡ a / 2097152 → walk img v ≡ 0
          gone v top up same =
              let none = some_page-none (next img second (a / 2097152 % 512)) off in
              cc (none, top, up, same, third_is, second_is, next-zero img (index 1 v))

      module _ (first : ℕ) (at_first : Some first ≡ some_page (next img second (a / 2097152 % 512))) where
        first_is : next img second (a / 2097152 % 512) ≡ first
        first_is = (some_page-is first (next img second (a / 2097152 % 512)) at_first).0

        pub past_first : None ≡ some_page (next img first (a / 4096 % 512)) → IsHole img a ((a / 4096 + 1) * 4096)
        past_first off = record { later = omega arith; near = omega arith; whole = omega arith; empty = λ v low high. gone v (omega arith) (omega arith) (omega arith) (omega arith) }
          where
            gone : (v : ℕ) → v / 549755813888 ≡ a / 549755813888 → v / 1073741824 ≡ a / 1073741824 → v / 2097152 ≡ a / 2097152 → v / 4096 ≡ a / 4096 → walk img v ≡ 0
            gone v top up mid same =
                let none = some_page-none (next img first (a / 4096 % 512)) off in
                cc (none, top, up, mid, same, third_is, second_is, first_is)

        -- and where all four name one, the address has a page
        pub is_mapped : (page : ℕ) → Some page ≡ some_page (next img first (a / 4096 % 512)) → walk img a ≢ 0
        is_mapped page at_page none =
            let there = some_page-is page (next img first (a / 4096 % 512)) at_page in
            let is : walk img a ≡ next img first (a / 4096 % 512) = cc (third_is, second_is, first_is) in
            there.1 (sym is ∙ none)

-- a byte in a hole is 0
pub hole_byte : (img : List ℕ) (v : ℕ) → walk img v ≡ 0 → byte img v ≡ 0
hole_byte img v none = ap (λ page. byte_in img page (v % 4096)) none

module _ {w path : List ℕ} {i : ℕ} {d : Inode} (rest : IsAtRest w) (found : IsNodeAt w path i d) (off : ℕ) where
  -- what comes next of a file's data, by the bytes of its addresses
  pub data_file : d.kind ≢ 2 → (next : Option ℕ)
      → ((bytes : List ℕ) → d.size ≡ length bytes → ((k : ℕ) → off < d.size → k < d.size → slice_index bytes k ≡ byte w (d.base + k)) → IsNextData bytes off next)
      → (t : Tree) → StandsFor w t → (refusal t (locate path) ≡ None) × IsNextData (bytes_in (at t path)) off next
  data_file other next is t s =
      let n = file_node rest found t s other in
      let size = size_is rest found.live found.is in (
        checked_by no_file t path (Ok (File n.0)) found.valid n.1,
        subst (λ r. IsNextData (bytes_in r) off next) (sym n.1) (is n.0 (sym size ∙ n.2.size) (λ k less in_size.
            let within : k < length n.0 = omega (arith, in_size, size, n.2.size) in
            sym (n.2.all k within) ∙ sym (ap (λ (f : Object). f.at k) (dir_is rest found.live found.is)) ∙ content_byte rest found off 0 less k in_size)),
      )

  -- past the end there are none
  pub data_past : d.kind ≢ 2 → d.size ≤ off → (t : Tree) → StandsFor w t → (refusal t (locate path) ≡ None) × IsNextData (bytes_in (at t path)) off None
  data_past other past = data_file other None (λ bytes size same k low high. absurd (omega (arith, size, past, low, high)))

  -- and none where no address has a page
  pub data_none : d.kind ≢ 2 → off < d.size → AreUnmapped w (d.base + off) (d.base + d.size) → (t : Tree) → StandsFor w t → (refusal t (locate path) ≡ None) × IsNextData (bytes_in (at t path)) off None
  data_none other less holes = data_file other None (λ bytes size same k low high.
      let in_size : k < d.size = omega (arith, size, high) in
      same k less in_size ∙ hole_byte w (d.base + k) (holes (d.base + k) (omega (arith, low)) (omega (arith, in_size))))

  -- else they come next at the first address that has one
  pub data_some : d.kind ≢ 2 → off < d.size → (v next : ℕ) → next ≡ v - d.base → IsNextMapped w (d.base + off) (d.base + d.size) v → (t : Tree) → StandsFor w t
      → (refusal t (locate path) ≡ None) × IsNextData (bytes_in (at t path)) off (Some next)
  data_some other less v next is mapped = data_file other (Some next) (λ bytes size same. record {
    later = omega (arith, is, mapped.later);
    within = omega (arith, is, mapped.later, mapped.before, size);
    zeros = λ k low high.
        let in_size : k < d.size = omega (arith, is, high, mapped.later, mapped.before) in
        same k less in_size ∙ hole_byte w (d.base + k) (mapped.empty (d.base + k) (omega (arith, low)) (omega (arith, is, high, mapped.later)));
    whole = λ aligned.
        let base = base_whole (room_of rest found off 0 less) in
        let begins : (d.base + off) % 4096 ≡ 0 = omega (arith, base, aligned) in
        let there = mapped.whole begins in
        let sum : v ≡ d.base + next = omega (arith, is, mapped.later) in
        omega (arith, base, there, sum);
  })

  -- and the file has a page there
  pub data_mapped : (v next : ℕ) → next ≡ v - d.base → IsNextMapped w (d.base + off) (d.base + d.size) v → IsMappedAt w path next
  data_mapped v next is mapped =
      let base : (inode (view w) i).base ≡ d.base = ap (λ (f : Inode). f.base) found.is in
      let sum : (inode (view w) i).base + next ≡ v = omega (arith, base, is, mapped.later) in
      (i, found.leads, λ none. mapped.mapped (ap (walk w) (sym sum) ∙ none))
