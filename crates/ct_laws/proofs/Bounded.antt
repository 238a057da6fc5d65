-- What a call takes at most, whatever it is.
use Rattle.std.proofs.Common.{◌≡◌, ◌≢◌, ℕ, ◌+◌, ◌*◌, ◌/◌, ◌%◌, ◌^◌, ◌<◌, ◌≤◌, Bool, true, false, List, [], ◌∷◌, length, Option, None, Ok, refl, sym, ap, subst, ◌∙◌, inl, inr, arith}
use Rattle.std.specs.Prelude.{◌==◌, ◌&&◌, nat_le, not, if◌then◌else◌}
use Rattle.std.proofs.Math.Nat.{div-add-mod, mul_assoc}
use Rattle.std.proofs.lemmas.Bool.{and_parts, cases_eq, cond-false, cond-true, eq-eqb, eqb-true, ne_eqb}
use Rattle.ct_base.specs.declared.inode.Inode.{Inode}
use Rattle.ct_base.specs.Inode.{inode, IsLive, IsNumber, part_bytes}
use Rattle.ct_base.specs.Named.{Leads}
use Rattle.ct_base.specs.Objects.{Object}
use Rattle.ct_base.specs.Plan.{Plan, create_plan, entry_plan, exchange_plan, give_up_wants, no_plan, plan_of, touched, truncate_plan, write_plan}
use Rattle.ct_base.specs.Rules.{AreEntries, IsPlaced, Sound, inodes, names as names_rule, placed, slots}
use Rattle.ct_base.specs.Slots.{free_slot, slot_inode}
use Rattle.ct_base.specs.View.{view, inode_count}
use Rattle.ct_base.specs.Wants.{missing}
use Rattle.ct_plan.proofs.Bounds.{create_space, entry_space, exchange_space, give_up_space, truncate_space}
use Rattle.ct_plan.proofs.Space.{missing_nothing, write_space}
use Rattle.ct_plan.specs.Few.{IsAligned}
use Rattle.ct_state.proofs.Bytes.{objects-cases, objects-in}
use Rattle.ct_state.proofs.Followed.{followed, leads_resolve}
use Rattle.ct_tree.proofs.Ordered.{not_above}
use Rattle.ct_tree.proofs.Steps.{IsRooted, exchange_checked, first_none}
use Rattle.ct_tree.specs.Checks.{above, are_ranges, at, bad_path, first_of, names, no_file, refuse_if}
use Rattle.ct_tree.specs.Content.{bytes_in}
use Rattle.ct_tree.specs.Lands.{files}
use Rattle.ct_tree.specs.Need.{HasNeed, HasPlan, IsAt, PlansCreate, PlansRemoval, PlansRename}
use Rattle.ct_tree.specs.Stands.{Stands}
use Rattle.ct_tree.specs.Step.{Op, create, mkdir, write, fill, append, read, truncate, unlink, rmdir, rename, exchange, exchange_limit, file_limit, refusal, size_at, stat, list, locate}
use Rattle.ct_tree.specs.Tree.{Tree, File, Dir}
use Rattle.ct_tree.specs.declared.call.Refusal.{Refusal}
use Rattle.ct_tree.specs.declared.call.Refusal.TheVariants.{BadRange, TooBig, TooLong}
use Rattle.ct_laws.specs.Bounds.{KeepsLimits, Touches, pages_written}

-- what names lead to is live
leads_live : (fs : ℕ → Object) → AreEntries fs → (xs : List (List ℕ)) (c i : ℕ) → (fs c).kind ≢ 0 → Leads fs c xs i → (fs i).kind ≢ 0
unfolding Leads
leads_live fs entries [] c i live leads = subst (λ k. (fs k).kind ≢ 0) leads live
leads_live fs entries (x ∷ xs) c i live leads = leads_live fs entries xs (slot_inode (fs c) leads.0.offset) i (entries c leads.0.offset leads.0.slot).live leads.1

module _ (img : List ℕ) (sound : Sound img) (some : 2 ≤ inode_count img) where
  first : IsNumber (inode_count img) 1
  first = record { from = omega arith; to = omega (arith, some) }

  root_live : (files img 1).kind ≢ 0
  root_live none = omega (arith, none, ap (λ (o : Object). o.kind) (objects-in (view img) (inode_count img) 1 first), (sound inodes 1 first).root refl)

  live_at : (i : ℕ) (path : List ℕ) → IsAt img path i → IsLive (view img) (inode_count img) i
  live_at i path at =
      let live = leads_live (files img) (sound slots) (names path) 1 i root_live at in
      elim (objects-cases (view img) (inode_count img) i) [
        | inl there ↦ record { number = there.0; used = λ z. live (ap (λ (o : Object). o.kind) there.1 ∙ z) }
        | inr none ↦ absurd (live (ap (λ (o : Object). o.kind) none.1))
      ]

  place_at : (i : ℕ) (path : List ℕ) → IsAt img path i → IsPlaced (inode (view img) i)
  place_at i path at = sound placed i (live_at i path at)

  aligned : (f : Inode) → IsPlaced f → IsAligned f
  aligned f p = elim p.place [ inl none ↦ inl (omega (arith, none.level)) | inr room ↦ inr (room.part.level, room.part.aligned) ]

  whole : (f : Inode) → IsPlaced f → f.base % 4096 ≡ 0
  whole f p = elim p.place [
    | inl none ↦ omega (arith, none.base)
    | inr room ↦
        let parts = div-add-mod f.base (part_bytes f.level) in
        let factor : 4096 * 8 ^ f.level * (f.base / part_bytes f.level) ≡ 4096 * (8 ^ f.level * (f.base / part_bytes f.level)) = mul_assoc 4096 (8 ^ f.level) (f.base / part_bytes f.level) in
        omega (arith, parts, factor, room.part.aligned)
  ]

  inside : (f : Inode) (len : ℕ) → IsPlaced f → len < f.size → len / 4096 < 8 ^ f.level
  inside f len p lt = elim p.place [ inl none ↦ absurd (omega (arith, none.size, lt)) | inr room ↦ omega (arith, room.size, lt) ]

  -- a write, with no byte or with some
  written : (f : Inode) (off len : ℕ) → IsPlaced f → off + len ≤ 2 ^ 39 → missing img (write_plan (view img) (inode_count img) f off len).wants ≤ 2 * pages_written off len + 128
  written f off len p fits = elim (cases_eq len 0) [
    | inl none ↦
        let plan : write_plan (view img) (inode_count img) f off len ≡ no_plan = cond-true (len == 0) no_plan _ (eq-eqb len 0 none) in
        omega (arith, ap (λ (q : Plan). missing img q.wants) plan, missing_nothing img)
    | inr bytes ↦
        let pages : pages_written off len ≡ touched off len = cond-false (len == 0) 0 (touched off len) (ne_eqb len 0 bytes) in
        omega (arith, pages, write_space img (view img) (inode_count img) f off len (aligned f p) fits)
  ]

  by_plan : (most : ℕ) (plan other : Plan) → plan ≡ other → missing img other.wants ≤ most → missing img plan.wants ≤ most
  by_plan most plan other is le = subst (λ (p : Plan). missing img p.wants ≤ most) (sym is) le

  removed : (path : List ℕ) (plan : Plan) → PlansRemoval img path plan → missing img plan.wants ≤ 8
  removed path plan p = by_plan 8 plan (plan_of (give_up_wants (inode (view img) p.0))) p.2 (give_up_space img (inode (view img) p.0))

  created : (path : List ℕ) (plan : Plan) → PlansCreate img path plan → missing img plan.wants ≤ 56
  created path plan p = by_plan 56 plan (create_plan (view img) (inode_count img) (inode (view img) p.0) (free_slot (files img p.0)) p.1) p.4 (create_space img (view img) (inode_count img) (inode (view img) p.0) (free_slot (files img p.0)) p.1)

  renamed : (path to : List ℕ) (plan : Plan) → PlansRename img path to plan → missing img plan.wants ≤ 52
  renamed path to plan (inl same) = by_plan 52 plan no_plan same.1 (omega (arith, missing_nothing img))
  renamed path to plan (inr (other, inl replaces)) = omega (arith, removed to plan replaces)
  renamed path to plan (inr (other, inr new)) =
      by_plan 52 plan (if new.1.0 == new.1.1 then no_plan else entry_plan (view img) (inode_count img) (inode (view img) new.1.1) (free_slot (files img new.1.1)) []) new.1.4 (by (new.1.0 == new.1.1) new.1.1)
    where
      by : (b : Bool) (k : ℕ) → missing img (if b then no_plan else entry_plan (view img) (inode_count img) (inode (view img) k) (free_slot (files img k)) []).wants ≤ 52
      by true k = omega (arith, missing_nothing img)
      by false k = omega (arith, entry_space img (view img) (inode_count img) (inode (view img) k) (free_slot (files img k)) [], missing_nothing img)

  looks : (plan : Plan) → plan ≡ no_plan → missing img plan.wants ≤ 128
  looks plan is = by_plan 128 plan no_plan is (omega (arith, missing_nothing img))

  bounded : (op : Op) (plan : Plan) (n : ℕ) → KeepsLimits img op → HasPlan img op plan → Touches img op n → missing img plan.wants ≤ 2 * n + 128
  bounded (create path) plan n keeps p is = omega (arith, created path plan p)
  bounded (mkdir path) plan n keeps p is = omega (arith, created path plan p)
  bounded (write path off bytes) plan n keeps p is =
      by_plan (2 * n + 128) plan (write_plan (view img) (inode_count img) (inode (view img) p.0) off (length bytes)) p.2 (omega (arith, is, written (inode (view img) p.0) off (length bytes) (place_at p.0 path p.1) keeps))
  bounded (fill path off len byte) plan n keeps p is =
      by_plan (2 * n + 128) plan (write_plan (view img) (inode_count img) (inode (view img) p.0) off len) p.2 (omega (arith, is, written (inode (view img) p.0) off len (place_at p.0 path p.1) keeps))
  bounded (append path bytes) plan n keeps p is =
      let f = inode (view img) p.0 in
      by_plan (2 * n + 128) plan (write_plan (view img) (inode_count img) f f.size (length bytes)) p.2 (omega (arith, is p.0 p.1, written f f.size (length bytes) (place_at p.0 path p.1) (keeps p.0 p.1)))
  bounded (read path off len) plan n keeps p is = omega (arith, looks plan p)
  bounded (truncate path len) plan n keeps p is =
      let f = inode (view img) p.0 in
      let at = place_at p.0 path p.1 in
      by_plan (2 * n + 128) plan (truncate_plan (view img) (inode_count img) f len) p.2 (omega (arith, truncate_space img (view img) (inode_count img) f len (whole f at) (inside f len at)))
  bounded (unlink path) plan n keeps p is = omega (arith, removed path plan p)
  bounded (rmdir path) plan n keeps p is = omega (arith, removed path plan p)
  bounded (rename path to) plan n keeps p is = omega (arith, renamed path to plan p)
  bounded (exchange path off other other_off len) plan n keeps p is =
      let f = inode (view img) p.0 in
      let g = inode (view img) p.1 in
      by_plan (2 * n + 128) plan (if len == 0 then no_plan else exchange_plan f off g other_off len) p.4 (elim (cases_eq len 0) [
        | inl none ↦ omega (arith, ap (λ (q : Plan). missing img q.wants) (cond-true (len == 0) no_plan (exchange_plan f off g other_off len) (eq-eqb len 0 none)), missing_nothing img)
        | inr pages ↦
            omega (arith, ap (λ (q : Plan). missing img q.wants) (cond-false (len == 0) no_plan (exchange_plan f off g other_off len) (ne_eqb len 0 pages)), exchange_space img f off g other_off len (omega (arith, keeps.0, pages)) keeps.1)
      ])
  bounded (stat path) plan n keeps p is = omega (arith, looks plan p)
  bounded (list path) plan n keeps p is = omega (arith, looks plan p)
  bounded (locate path) plan n keeps p is = omega (arith, looks plan p)

  pub need_bounded : (op : Op) (need n : ℕ) → KeepsLimits img op → HasNeed img op need → Touches img op n → need ≤ 2 * n + 128
  need_bounded op need n keeps has is = omega (arith, has.2, bounded op has.0 n keeps has.1 is)

-- ---- a call that no check refuses keeps to the limits

module _ (img : List ℕ) (sound : Sound img) (some : 2 ≤ inode_count img) (t : Tree) (rooted : IsRooted t) (st : Stands (files img) 1 t) where
  -- the last of three checks
  third : (a b : Option Refusal) (n limit : ℕ) (r : Refusal) → first_of (a ∷ b ∷ above n limit r ∷ []) ≡ None → n ≤ limit
  third a b n limit r passes =
      let one = first_none a (b ∷ above n limit r ∷ []) passes in
      let two = first_none b (above n limit r ∷ []) one.1 in
      not_above n limit r (first_none (above n limit r) [] two.1).0

  -- a file's size is that in the tree
  pub size_is : (i : ℕ) (path : List ℕ) → IsAt img path i → no_file (at t path) ≡ None → (inode (view img) i).size ≡ size_at t path
  size_is i path leads file =
      let way = followed (files img) (sound names_rule) 1 i (names path) t rooted.tree st leads in
      let found : at t path ≡ Ok way.node = leads_resolve t (names path) way.node way.to in
      let object = ap (λ (o : Object). o.size) (objects-in (view img) (inode_count img) i (live_at img sound some i path leads).number) in
      sym object ∙ by way.node way.stands (sym (ap no_file found) ∙ file) ∙ sym (ap (λ r. length (bytes_in r)) found)
    where
      by : (n : Tree) → Stands (files img) i n → no_file (Ok n) ≡ None → (files img i).size ≡ length (bytes_in (Ok n))
      by (File bytes) is passes = is.size
      by (Dir es) is passes = absurd (cc)

  whole_pages : (one two : List ℕ) (off other_off len : ℕ) (r : Refusal) → refuse_if (not (are_ranges one off two other_off len)) r ≡ None → len % 4096 ≡ 0
  whole_pages one two off other_off len r passes =
      let is = passed (are_ranges one off two other_off len) r passes in
      let e = and_parts (((off % 4096 == 0) && (other_off % 4096 == 0)) && (len % 4096 == 0) && nat_le (off + len) (length one)) (nat_le (other_off + len) (length two)) is in
      let d = and_parts (((off % 4096 == 0) && (other_off % 4096 == 0)) && (len % 4096 == 0)) (nat_le (off + len) (length one)) e.0 in
      eqb-true (len % 4096) 0 (and_parts ((off % 4096 == 0) && (other_off % 4096 == 0)) (len % 4096 == 0) d.0).1
    where
      passed : (b : Bool) (r : Refusal) → refuse_if (not b) r ≡ None → b ≡ true
      passed true r h = refl
      passed false r h = absurd (cc)

  pub keeps_limits : (op : Op) → refusal t op ≡ None → KeepsLimits img op
  keeps_limits (create path) allowed = tt
  keeps_limits (mkdir path) allowed = tt
  keeps_limits (write path off bytes) allowed = third (bad_path path) (no_file (at t path)) (off + length bytes) file_limit TooBig allowed
  keeps_limits (fill path off len byte) allowed = third (bad_path path) (no_file (at t path)) (off + len) file_limit TooBig allowed
  keeps_limits (append path bytes) allowed = λ i leads.
      let end = third (bad_path path) (no_file (at t path)) (size_at t path + length bytes) file_limit TooBig allowed in
      let one = first_none (bad_path path) (no_file (at t path) ∷ above (size_at t path + length bytes) file_limit TooBig ∷ []) allowed in
      let two = first_none (no_file (at t path)) (above (size_at t path + length bytes) file_limit TooBig ∷ []) one.1 in
      omega (arith, end, size_is i path leads two.0)
  keeps_limits (read path off len) allowed = tt
  keeps_limits (truncate path len) allowed = tt
  keeps_limits (unlink path) allowed = tt
  keeps_limits (rmdir path) allowed = tt
  keeps_limits (rename path to) allowed = tt
  keeps_limits (exchange path off other other_off len) allowed =
      let c = exchange_checked t rooted path other off other_off len allowed in
      (whole_pages (bytes_in (at t path)) (bytes_in (at t other)) off other_off len BadRange c.ranges, not_above len exchange_limit TooLong c.few)
  keeps_limits (stat path) allowed = tt
  keeps_limits (list path) allowed = tt
  keeps_limits (locate path) allowed = tt
