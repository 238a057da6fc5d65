use Rattle.std.proofs.Common.{◌≡◌, ◌-◌}
use Rattle.ct_frames.specs.Free.{rising}
use Rattle.ct_format.proofs.formatting.free_pages.Given as goal

-- the pages from this one on are free
abbrev pub invariant-loop-page : goal.invariant-loop-page
invariant-loop-page l = l.frames ≡ record { pages = l.pages; free = rising (l.pages - l.page) l.page }
