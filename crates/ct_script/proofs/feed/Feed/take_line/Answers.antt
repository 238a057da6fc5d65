use Rattle.std.proofs.Common.{◌≡◌, ◌∙◌, ◌+◌, ◌<◌, ◌++◌, ◌∷◌, length, take, drop, ap, sym, subst, arith, length-take}
use Rattle.std.specs.Prelude.{slice_range}
use Rattle.ct_script.specs.Feed.{FeedState, IsUnended}
use Rattle.ct_script.proofs.Feeds.{line_in_parts, unended_parts}
use Rattle.ct_script.proofs.feed.Feed.take_line.Goals as goal

pub invariant_of-self : goal.invariant_of-self
invariant_of-self c =
    let f = c.self.inside in
    let i = c.self.invariant in
    let part = subst (λ xs. IsUnended (slice_range xs (f.begin + f.searched) (f.begin + f.len))) c.deref.ensures.value (c.in-None.ensures) in
    (i.0, i.1, i.2, i.3, omega arith, unended_parts f.buffer.items f.begin f.searched f.len (let a = i.0 in let b = i.1 in omega (arith, a, b)) i.4 i.5 part)

pub returns-in-None-clause-line : goal.returns-in-None-clause-line
returns-in-None-clause-line c =
    let f = c.self.inside in
    let i = c.self.invariant in
    let held = ap (λ (s : FeedState). s.held) c.self.view_is in
    let part = subst (λ xs. IsUnended (slice_range xs (f.begin + f.searched) (f.begin + f.len))) c.deref.ensures.value (c.in-None.ensures) in
    (held, subst IsUnended held (unended_parts f.buffer.items f.begin f.searched f.len (let a = i.0 in let b = i.1 in omega (arith, a, b)) i.4 i.5 part))

pub returns-in-Some-clause-line : goal.returns-in-Some-clause-line
returns-in-Some-clause-line c =
    let f = c.self.inside in
    let i = c.self.invariant in
    let xs = f.buffer.items in
    let held = ap (λ (s : FeedState). s.held) c.self.view_is in
    let more = c.in-Some.more in
    let found =
    subst (λ ys. (slice_range ys (f.begin + f.searched) (f.begin + f.len) ≡ take more (slice_range ys (f.begin + f.searched) (f.begin + f.len)) ++ 10 ∷ drop (more + 1) (slice_range ys (f.begin + f.searched) (f.begin + f.len)))
    × IsUnended (take more (slice_range ys (f.begin + f.searched) (f.begin + f.len))) × (more < length (slice_range ys (f.begin + f.searched) (f.begin + f.len)))) c.deref.ensures.value c.in-Some.ensures in
    let line = line_in_parts xs f.begin f.searched f.len (let a = i.0 in let b = i.1 in omega (arith, a, b)) i.4 more i.5 found.0 found.1 found.2 in
    (sym held ∙ line.0, line.1, (let e = length-take (f.searched + more) (drop f.begin xs) in let b = i.1 in let l = line.2 in omega (arith, e, b, l)))
