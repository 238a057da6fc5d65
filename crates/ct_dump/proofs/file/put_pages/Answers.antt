use Rattle.std.proofs.Common.{◌≡◌, ◌∙◌, ◌+◌, ◌-◌, ◌%◌, ◌≤◌, ◌++◌, ℕ, [], length, take, sym, ap, subst, arith, append_assoc}
use Rattle.std.specs.Io.KnownBytes.{Appends}
use Rattle.ct_script.proofs.Puts.{appends_nil, appends_then, fault_after}
use Rattle.ct_tree.specs.Checks.{at}
use Rattle.ct_tree.specs.Content.{bytes_in, range}
use Rattle.ct_tree.proofs.Steps.{few_bytes}
use Rattle.ct_dump.specs.Dumped.{page_text, pages_text, page_count}
use Rattle.ct_dump.proofs.Holes.{rest_text, skipped, page_then}
use Rattle.ct_dump.proofs.file.put_pages.Goals as goal

pub pages-init : goal.pages-init
pages-init g c =
    let bytes = bytes_in (at (g.T.Seen.tree c.args.tree.now) c.args.path.now) in
    let e = c.next_page-off.ensures in
    (e.whole, ([], appends_nil _, sym (skipped c.args.path.now bytes 0 c.next_page-off.result (omega arith) e.whole e.later e.zeros)), omega arith)

pub returns-in-Err-clause-bytes : goal.returns-in-Err-clause-bytes
returns-in-Err-clause-bytes g c =
    let path = c.args.path.now in
    let bytes = bytes_in (at (g.T.Seen.tree c.args.tree.now) path) in
    let off = c.pages.off in
    let inv = c.pages.invariant.1 in
    let within : off + 1 ≤ length bytes = omega (arith, c.pages-test.true, c.requires.size) in
    let page = page_text path off (range bytes off 4096) in
    let more = rest_text path bytes (off + 4096) in
    let all : length bytes - 0 ≡ c.args.size = omega (arith, c.requires.size) in
    let whole : inv.0 ++ (page ++ more) ≡ pages_text path bytes (page_count c.args.size) 0 =
    ap (λ t. inv.0 ++ t) (sym (page_then path bytes off within)) ∙ inv.2 ∙ ap (λ n. pages_text path bytes (page_count n) 0) all in
    subst (λ t. (k : ℕ) × Appends (g.O.Sink.written c.args.out.now) (g.O.Sink.written c.put_page_at.new.out) (take k t)) whole
    (fault_after (g.O.Sink.written c.args.out.now) (g.O.Sink.written c.pages.out) (g.O.Sink.written c.put_page_at.new.out) inv.0 page more inv.1 c.in-Err.ensures.bytes)

pub overflow_add-off : goal.overflow_add-off
overflow_add-off g c =
    let few = few_bytes (g.T.Seen.tree c.args.tree.now) c.args.path.now (g.met.T.Seen.sound c.args.tree.now) in
    omega (arith, few, c.pages-test.true, c.requires.size)

pub pages-preserved : goal.pages-preserved
pages-preserved g c =
    let path = c.args.path.now in
    let bytes = bytes_in (at (g.T.Seen.tree c.args.tree.now) path) in
    let off = c.pages.off in
    let inv = c.pages.invariant.1 in
    let e = c.next_page-off-in-pages.ensures in
    let within : off + 1 ≤ length bytes = omega (arith, c.pages-test.true, c.requires.size) in
    let page = page_text path off (range bytes off 4096) in
    let aligned : (off + 4096) % 4096 ≡ 0 = omega (arith, c.pages.invariant.0) in
    let later = c.in-Ok.ensures.cause.later in
    let had = c.pages.invariant.2 in (
      e.whole,
      (
        inv.0 ++ page,
        appends_then (g.O.Sink.written c.args.out.now) (g.O.Sink.written c.pages.out) (g.O.Sink.written c.put_page_at.new.out) inv.0 page inv.1 c.in-Ok.ensures.bytes,
        append_assoc inv.0 page _
            ∙ ap (λ t. inv.0 ++ (page ++ t)) (sym (skipped path bytes (off + 4096) c.next_page-off-in-pages.result aligned e.whole e.later e.zeros))
            ∙ ap (λ t. inv.0 ++ t) (sym (page_then path bytes off within)) ∙ inv.2,
      ),
      omega (arith, later, had),
    )
