use Rattle.std.proofs.Common.{◌≡◌, ℕ, ◌-◌, ◌*◌, ◌/◌, ◌^◌, ◌<◌, sym, ap, subst, ◌∙◌, arith}
use Rattle.std.proofs.lemmas.Bool.{eq-eqb, eqb-true}
use Rattle.ct_base.specs.declared.inode.Inode.{Inode}
use Rattle.ct_base.specs.Inode.{inode, number_of, part, part_bytes}
use Rattle.ct_base.specs.Rules.{Owns}
use Rattle.ct_base.specs.View.{inode_count, view}
use Rattle.ct_parts.proofs.Lists.{part_partition}
use Rattle.ct_placing.specs.Heading.{byte_of}
use Rattle.ct_placing.proofs.Collecting.{room_of}
use Rattle.ct_placing.proofs.headers.is_part_shown.Goals as goal

pub byte_of-requires-clause-number : goal.byte_of-requires-clause-number
byte_of-requires-clause-number g c =
    let w = g.D.Pm.words c.args.dev.now in
    let f = inode (view w) c.args.n in
    let r = c.get-f.result in
    let is : r ≡ f = c.get-f.ensures in
    let kind : r.kind ≡ f.kind = ap (λ (e : Inode). e.kind) is in
    let level : r.level ≡ f.level = ap (λ (e : Inode). e.level) is in
    let own : Owns (view w) (inode_count w) c.args.n = record {
      live = record { number = record { from = c.requires.from; to = c.requires.to }; used = λ none. omega (arith, kind, none, c.if-f-eq0.false) };
      level = omega (arith, level, c.if-f-gt-TOP_LEVEL.false);
    } in
    let p = part_partition (part f) (room_of c.requires.placed own).part in
    let P : Inode → Type 0 = λ e. e.base / part_bytes e.level < 512 * 8 ^ (9 - e.level) in
    subst (λ (k : ℕ). r.base / k < 512 * 8 ^ (9 - r.level)) (sym c.bytes_of.ensures.bytes) (subst P (sym is) p.high)

pub returns : goal.returns
returns g c =
    let w = g.D.Pm.words c.args.dev.now in
    let f = inode (view w) c.args.n in
    let r = c.get-f.result in
    let is : r ≡ f = c.get-f.ensures in
    let kind : r.kind ≡ f.kind = ap (λ (e : Inode). e.kind) is in
    let level : r.level ≡ f.level = ap (λ (e : Inode). e.level) is in
    let same : c.byte_of.result ≡ byte_of w f.level (number_of (part f)) = c.byte_of.ensures ∙ ap (λ k. byte_of w r.level (r.base / k)) c.bytes_of.ensures.bytes
    ∙ ap (λ (e : Inode). byte_of w e.level (e.base / part_bytes e.level)) is in (
      λ on used low. sym same ∙ eqb-true _ 16 on,
      λ shown. eq-eqb _ 16 (same ∙ shown (λ none. omega (arith, kind, none, c.if-f-eq0.false)) (omega (arith, level, c.if-f-gt-TOP_LEVEL.false))),
    )
