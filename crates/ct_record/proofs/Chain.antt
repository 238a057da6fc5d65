-- Calls on one draft, one after the other.
use Rattle.std.proofs.Common.{arith}
use Rattle.ct_pm.proofs.Made.{makes_none, makes_then}
use Rattle.ct_pm.proofs.Told.{and_then}
use Rattle.ct_record.specs.declared.draft.Draft.{Draft}
use Rattle.ct_base.specs.Settled.{settled}
use Rattle.ct_record.specs.Record.{StaysInLine, StaysInRecord, AreApart, IsDrafted}
use Rattle.ct_record.specs.Seen.{Drafts, words_under, told_under, pairs_of}
use Rattle.ct_record.proofs.Settles.{same_refl, same_then}
use Rattle.ct_record.proofs.Whole.{drafted_here, apart_at, moments_then}

pub drafts_here : {D : Type 0} {bound : _} (draft : Draft D bound) → Drafts draft draft
drafts_here draft = record {
  same = same_refl (words_under draft);
  made = makes_none StaysInRecord (told_under draft);
  moments = (drafted_here (told_under draft) draft.end (words_under draft) draft.high draft.shut draft.images).moments;
  reads = same_refl (settled (words_under draft));
  shut = (drafted_here (told_under draft) draft.end (words_under draft) draft.high draft.shut draft.images).each_shut;
  short = λ is. (is, makes_none StaysInLine (told_under draft));
  more = omega arith;
  few = λ is fewer. is;
}

pub drafts_then : {D : Type 0} {bound : _} {old mid new : Draft D bound} → Drafts old mid → Drafts mid new → Drafts old new
drafts_then {old = old} {mid = mid} first second = record {
  same = same_then second.same first.same;
  made = makes_then first.made second.made;
  moments = moments_then (words_under old) (words_under mid) old.shut mid.shut first.same first.moments second.moments;
  reads = same_then second.reads first.reads;
  shut = and_then first.shut second.shut;
  short = λ is. let later = second.short is in let before = first.short later.0 in (before.0, makes_then before.1 later.1);
  more = omega (arith, first.more, second.more);
  few = λ is fewer. second.few (first.few is (omega (arith, fewer, second.more))) fewer;
}

-- a draft as it stands
pub begun : {D : Type 0} {bound : _} (draft : Draft D bound) → IsDrafted (words_under draft) (words_under draft) (told_under draft) (told_under draft)
begun draft = drafted_here (told_under draft) draft.end (words_under draft) draft.high draft.shut draft.images

pub apart_of : {D : Type 0} {bound : _} (draft : Draft D bound) → AreApart (pairs_of draft)
apart_of draft = apart_at draft.count (words_under draft) draft.targets
