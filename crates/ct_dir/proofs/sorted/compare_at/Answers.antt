use Rattle.std.proofs.Common.{◌≡◌, sym, ap, ◌∙◌}
use Rattle.std.specs.Cmp.Lexicographic.{slice_cmp}
use Rattle.std.specs.Ordering.{nat_cmp}
use Rattle.ct_dir.specs.Sorting.{name_key, name_word, values}
use Rattle.ct_dir.proofs.Sorting.{key_order, order_decided, order_ends, order_goes_on}
use Rattle.ct_dir.proofs.sorted.compare_at.Goals as goal

pub returns-in_default : goal.returns-in_default
returns-in_default g c =
    let w = g.D.Pm.words c.args.dev.now in
    let dir = c.args.dir in
    let f = name_word w c.place_of_slot-x.result in
    let h = name_word w c.place_of_slot-y.result in
    let is : c.cmp.result ≡ nat_cmp (f c.loop-k.k) (h c.loop-k.k) =
    c.cmp.ensures ∙ ap (λ n. nat_cmp n c.word_of_name-in-loop-k.result) c.word_of_name.ensures ∙ ap (nat_cmp (f c.loop-k.k)) c.word_of_name-in-loop-k.ensures in
    let keys : c.cmp.result ≡ slice_cmp nat_cmp (name_key w dir c.args.a) (name_key w dir c.args.b) =
    order_decided f h c.loop-k.k c.loop-k.invariant c.cmp.result c.loop-k-test.true is c.in_default.not-Equal
    ∙ ap (λ p. slice_cmp nat_cmp (values (name_word w p) 0 32) (values h 0 32)) c.place_of_slot-x.ensures.exact
    ∙ ap (λ p. slice_cmp nat_cmp (name_key w dir c.args.a) (values (name_word w p) 0 32)) c.place_of_slot-y.ensures.exact in
    record {
      keys = keys;
      names = λ readable a b. keys ∙ key_order readable (g.met.D.Pm.words_fit c.args.dev.now) a b;
    }

pub loop-k-preserved : goal.loop-k-preserved
loop-k-preserved g c =
    let w = g.D.Pm.words c.args.dev.now in
    let f = name_word w c.place_of_slot-x.result in
    let h = name_word w c.place_of_slot-y.result in
    let is : c.cmp.result ≡ nat_cmp (f c.loop-k.k) (h c.loop-k.k) =
    c.cmp.ensures ∙ ap (λ n. nat_cmp n c.word_of_name-in-loop-k.result) c.word_of_name.ensures ∙ ap (nat_cmp (f c.loop-k.k)) c.word_of_name-in-loop-k.ensures in
    order_goes_on f h c.loop-k.k c.loop-k.invariant c.loop-k-test.true (sym is ∙ c.in-Equal.is)

pub returns-clause-keys : goal.returns-clause-keys
returns-clause-keys g c =
    let w = g.D.Pm.words c.args.dev.now in
    let f = name_word w c.place_of_slot-x.result in
    let h = name_word w c.place_of_slot-y.result in
    order_ends f h c.loop-k.k c.loop-k.invariant c.loop-k-test.false
    ∙ ap (λ p. slice_cmp nat_cmp (values (name_word w p) 0 32) (values h 0 32)) c.place_of_slot-x.ensures.exact
    ∙ ap (λ p. slice_cmp nat_cmp (name_key w c.args.dir c.args.a) (values (name_word w p) 0 32)) c.place_of_slot-y.ensures.exact

pub returns-clause-names : goal.returns-clause-names
returns-clause-names g c readable a b =
    returns-clause-keys g c ∙ key_order readable (g.met.D.Pm.words_fit c.args.dev.now) a b
