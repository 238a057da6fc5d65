use Rattle.std.proofs.Common.{◌≡◌, ◌∙◌, ◌≤◌, arith, drop, take, ◌+◌, ap, sym, length}
use Rattle.std.proofs.lemmas.List.{drop_all}
use Rattle.ct_base.proofs.Grows.{piece_and_rest}
use Rattle.ct_base.proofs.mem.MemSourceSource.next.Goals as goal

pub returns-clause-bytes : goal.returns-clause-bytes
returns-clause-bytes c =
    let xs = c.self.inside.bytes.items in
    let n = c.min-count.result in
    let at = c.self.inside.at in
    let copied : c.copy_from_slice.new.self ≡ take n (drop at xs) =
    c.copy_from_slice.ensures.after ∙ ap (λ k. take k (drop at c.deref-2.result.now)) (omega arith) ∙ ap (λ ys. take n (drop at ys)) c.deref-2.ensures.value in
    let within : at + n ≤ length xs = omega arith in
    let had : drop at xs ≡ c.args.self.now.rest = ap (λ s. s.rest) c.self.view_is in (
      sym had ∙ piece_and_rest xs c.copy_from_slice.new.self (drop n c.args.buf.now) at n within copied,
      λ none room. let past : length xs ≤ at + n = omega arith in drop_all (at + n) xs past,
    )
