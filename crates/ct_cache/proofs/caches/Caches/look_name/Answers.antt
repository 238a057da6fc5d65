use Rattle.std.proofs.Common.{sym, ◌∙◌}
use Rattle.ct_cache.proofs.Changed.{name_hit, name_miss, name_none}
use Rattle.ct_cache.proofs.caches.Caches.look_name.Goals as goal

pub returns-then-is_key : goal.returns-then-is_key
returns-then-is_key c =
    name_hit c.args.self.now (c.args.number, c.args.name.now) c.place_of.result c.index.result.now c.in-Some.cell c.place_of.ensures.is c.index.ensures c.in-Some.is (sym c.is_key.ensures ∙ c.if-is_key.true)

pub returns-else-is_key : goal.returns-else-is_key
returns-else-is_key c =
    name_miss c.args.self.now (c.args.number, c.args.name.now) c.place_of.result c.index.result.now c.in-Some.cell c.place_of.ensures.is c.index.ensures c.in-Some.is (sym c.is_key.ensures ∙ c.if-is_key.false)

pub returns-in-None : goal.returns-in-None
returns-in-None c = name_none c.args.self.now (c.args.number, c.args.name.now) c.place_of.result c.index.result.now c.place_of.ensures.is c.index.ensures c.in-None.is
