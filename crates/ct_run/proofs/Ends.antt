-- How a run ends whose device was not made a file system, and where one that was stands.
use Rattle.std.proofs.Common.{◌≡◌, ℕ, List, Option, Some, refl, sym, inl, ap, subst, ◌∙◌}
use Rattle.std.specs.Prelude.{◌↔◌, IsSomeAnd}
use Rattle.ct_base.specs.Format.{IsFormatted}
use Rattle.ct_call.specs.Seen.{ready_in}
use Rattle.ct_call.specs.declared.mount.Why.{Why}
use Rattle.ct_call.specs.declared.mount.Why.TheVariants.{Damage}
use Rattle.ct_format.specs.Formatting.{Formats, IsFormatWord}
use Rattle.ct_format.specs.Made.{IsMissized, IsNew}
use Rattle.ct_fs.specs.Mounts.{fs_dev}
use Rattle.ct_fs.specs.declared.system.Fs.{Fs}
use Rattle.ct_pm.specs.Device.{SameOff}
use Rattle.ct_pm.specs.Images.{History}
use Rattle.ct_shell.proofs.Kept.{dev_moment, ready_moment, some_and}
use Rattle.ct_shell.specs.Moments.{Moment, moment, moment_in}
use Rattle.ct_run.specs.Ends.{IsMade, status_of}
use Rattle.ct_run.specs.Images.{IsRefusal}
use Rattle.ct_run.specs.declared.status.Status.{Status}

-- want of memory comes before the size is looked at, or not
pub refused_size : (why : Why) (status : Status) (rule pages : ℕ) → status ≡ status_of why → (rule ≡ 0) × IsMissized pages → ((r : ℕ) → (Some why ≡ Some (Damage r)) ↔ ((r ≡ 0) × IsMissized pages)) → IsRefusal rule status
refused_size why status rule pages of missized size =
    let is : Some why ≡ Some (Damage rule) = (size rule).1 missized in
    let same : why ≡ Damage rule = cc in
    inl (of ∙ ap status_of same)

-- a file system that was made stands from then on
pub made_at : {D : Type 0} {bound : _} (inodes pages : ℕ) (fs : Fs D bound) (words : List ℕ) (old : Option History) → IsSomeAnd (ready_in fs.state) (λ now. IsNew (bound.words now.dev) now.frames pages inodes)
    → Formats words old (bound.told (fs_dev fs)) → SameOff IsFormatWord (bound.words (fs_dev fs)) words → IsMade inodes pages (moment old words) (moment_in fs.state)
made_at inodes pages fs words old new moments others =
    let now = some_and (ready_in fs.state) new in
    let same = dev_moment fs.state fs.here in
    record {
      moments = subst (λ (m : Moment). Formats words old m.told) same moments;
      formatted = subst (λ (m : Moment). IsFormatted m.words pages inodes) (sym (ready_moment fs.state now.0 now.1)) now.2.formatted;
      others = subst (λ (m : Moment). SameOff IsFormatWord m.words words) same others;
    }
