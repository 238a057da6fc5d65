use Rattle.std.proofs.Common.{◌≡◌, ◌∙◌, ◌+◌, ◌-◌, ◌^◌, ◌≤◌, sym, ap, subst, arith}
use Rattle.ct_base.specs.Inode.{inode}
use Rattle.ct_base.specs.View.{inode_count, view}
use Rattle.ct_tell.specs.Held.{bytes_of, directories_of, files_of}
use Rattle.ct_tell.proofs.Counting.{IsSum, bytes_most, counts_all, directories_most, files_most}
use Rattle.ct_tell.proofs.Sums.{sum_least, sum_more, sum_none, sum_to}
use Rattle.ct_tell.proofs.held.count_inodes.Goals as goal

pub loop-n-init : goal.loop-n-init
loop-n-init g c = record {
  files = sym (sum_none (λ i. files_of (inode (view (g.D.Pm.words c.args.dev.now)) i)));
  directories = sym (sum_none (λ i. directories_of (inode (view (g.D.Pm.words c.args.dev.now)) i)));
  bytes = sym (sum_none (λ i. bytes_of (inode (view (g.D.Pm.words c.args.dev.now)) i)));
}

pub with_inode-counts-requires-clause-files : goal.with_inode-counts-requires-clause-files
with_inode-counts-requires-clause-files g c =
    let b = view (g.D.Pm.words c.args.dev.now) in
    let n = c.loop-n.n in
    let few = c.requires.head.inodes.1 in
    let sum = c.loop-n.invariant.files in
    let most = sum_least (λ i. files_of (inode b i)) 1 (n - 1) (λ i from to. files_most (inode b i)) in
    let less = c.loop-n-test.true in
    let end = c.load-n-end.ensures in
    omega (arith, few, sum, most, less, end)

pub with_inode-counts-requires-clause-directories : goal.with_inode-counts-requires-clause-directories
with_inode-counts-requires-clause-directories g c =
    let b = view (g.D.Pm.words c.args.dev.now) in
    let n = c.loop-n.n in
    let few = c.requires.head.inodes.1 in
    let sum = c.loop-n.invariant.directories in
    let most = sum_least (λ i. directories_of (inode b i)) 1 (n - 1) (λ i from to. directories_most (inode b i)) in
    let less = c.loop-n-test.true in
    let end = c.load-n-end.ensures in
    omega (arith, few, sum, most, less, end)

pub with_inode-counts-requires-clause-bytes : goal.with_inode-counts-requires-clause-bytes
with_inode-counts-requires-clause-bytes g c =
    let b = view (g.D.Pm.words c.args.dev.now) in
    let n = c.loop-n.n in
    let few = c.requires.head.inodes.1 in
    let sum = c.loop-n.invariant.bytes in
    let less = c.loop-n-test.true in
    let end = c.load-n-end.ensures in
    let from = c.loop-n.auto.n in
    let most = sum_least (λ i. bytes_of (inode b i)) (2 ^ 39) (n - 1) (λ i low high. bytes_most c.requires i low (omega (arith, high, less, end))) in
    let one : bytes_of c.get.result ≤ 2 ^ 39 = rw c.get.ensures (bytes_most c.requires n from (omega (arith, less, end))) in
    omega (arith, few, sum, most, one, less, end)

pub loop-n-preserved : goal.loop-n-preserved
loop-n-preserved g c =
    let b = view (g.D.Pm.words c.args.dev.now) in
    let n = c.loop-n.n in
    let from = c.loop-n.auto.n in
    let on : n - 1 + 1 ≡ n = omega (arith, from) in
    let next : n + 1 - 1 ≡ n - 1 + 1 = omega (arith, from) in
    record {
      files =
          c.with_inode-counts.ensures.files ∙ ap (λ k. k + files_of c.get.result) c.loop-n.invariant.files ∙ ap (λ f. sum_to (λ i. files_of (inode b i)) (n - 1) + files_of f) (c.get.ensures ∙ ap (inode b) (sym on))
          ∙ sym (sum_more (λ i. files_of (inode b i)) (n - 1)) ∙ ap (sum_to (λ i. files_of (inode b i))) (sym next);
      directories =
          c.with_inode-counts.ensures.directories ∙ ap (λ k. k + directories_of c.get.result) c.loop-n.invariant.directories
          ∙ ap (λ f. sum_to (λ i. directories_of (inode b i)) (n - 1) + directories_of f) (c.get.ensures ∙ ap (inode b) (sym on))
          ∙ sym (sum_more (λ i. directories_of (inode b i)) (n - 1)) ∙ ap (sum_to (λ i. directories_of (inode b i))) (sym next);
      bytes =
          c.with_inode-counts.ensures.bytes ∙ ap (λ k. k + bytes_of c.get.result) c.loop-n.invariant.bytes ∙ ap (λ f. sum_to (λ i. bytes_of (inode b i)) (n - 1) + bytes_of f) (c.get.ensures ∙ ap (inode b) (sym on))
          ∙ sym (sum_more (λ i. bytes_of (inode b i)) (n - 1)) ∙ ap (sum_to (λ i. bytes_of (inode b i))) (sym next);
    }

pub returns : goal.returns
returns g c =
    let w = g.D.Pm.words c.args.dev.now in
    let past = c.loop-n-test.false in
    let near = c.loop-n.auto.n-end in
    let end = c.load-n-end.ensures in
    let last : c.loop-n.n - 1 ≡ inode_count w = omega (arith, past, near, end) in
    counts_all c.requires c.loop-n.counts (subst (λ n. IsSum (view w) n c.loop-n.counts) last c.loop-n.invariant)
