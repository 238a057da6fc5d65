-- Pages that lie under live files while pages are made.
use Rattle.std.proofs.Common.{◌≡◌, ℕ, ◌*◌, ◌/◌, ◌^◌, ◌≤◌, List, sym, ◌∙◌, subst, arith}
use Rattle.ct_base.specs.Free.{IsFilePage}
use Rattle.ct_base.specs.Inode.{inode, IsIn}
use Rattle.ct_base.specs.Rules.{Owns, part_of}
use Rattle.ct_base.specs.View.{view, inode_count}
use Rattle.ct_image.proofs.Steps.{walk-cell}
use Rattle.ct_call.specs.Mounted.{OffFiles}
use Rattle.ct_commit.specs.Rest.{IsAtRest}
use Rattle.ct_commit.proofs.Pages.{base_whole, high_in, room_of}
use Rattle.ct_base.specs.Wants.{Want}
use Rattle.ct_frames.specs.Free.{FreePages}
use Rattle.ct_state.specs.Alike.{Alike}
use Rattle.ct_walk.specs.Growth.{Grown}
use Rattle.std.proofs.lemmas.Bool.{false_from_ne_true}

-- no page comes under one while pages are made that lie off the files
pub grown_page : {old new : List ℕ} {wants : List Want} {before after : FreePages} {page : ℕ} → IsAtRest old → Grown old new wants before after → Alike old new → OffFiles old wants → IsFilePage new page → IsFilePage old page
grown_page {old} {new} {wants} rest g alike off is =
    let owns : Owns (view old) (inode_count old) is.file = subst (λ b. Owns b (inode_count old) is.file) alike.bytes (subst (λ n. Owns (view new) n is.file) alike.inodes is.owns) in
    let kind : (inode (view old) is.file).kind ≡ 1 = subst (λ b. (inode b is.file).kind ≡ 1) alike.bytes is.kind in
    let inside : IsIn (part_of (view old) is.file) is.address = subst (λ b. IsIn (part_of b is.file) is.address) alike.bytes is.inside in
    let room = room_of old rest.sound owns in
    let high = high_in room inside.from inside.to in
    let q = is.address / 4096 in
    let there : IsIn (part_of (view old) is.file) (q * 4096) = record { from = omega (arith, inside.from, base_whole room); to = omega (arith, inside.to) } in
    let low : 10 * 2 ^ 27 ≤ q = omega (arith, room.part.low, inside.from) in
    let cell = g.cells 4 q (omega arith) (false_from_ne_true _ (λ wanted. off q low wanted is.file owns kind there)) in
    record { file = is.file; address = is.address; owns = owns; kind = kind; inside = inside; is = walk-cell old is.address high ∙ sym cell ∙ sym (walk-cell new is.address high) ∙ is.is; some = is.some }
