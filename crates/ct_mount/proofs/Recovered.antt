-- What settling leaves at each of its moments, told by the tree on which the words landed.
use Rattle.std.proofs.Common.{◌≡◌, ℕ, ◌/◌, ◌≤◌, List, Option, Some, None, sym, ◌∙◌, subst, inl, inr, arith}
use Rattle.std.specs.Prelude.{IfSome, slice_index}
use Rattle.ct_base.specs.Free.{IsFilePage}
use Rattle.ct_base.specs.Head.{HasHead}
use Rattle.ct_base.specs.Rules.{Sound}
use Rattle.ct_base.specs.Settled.{HasFewPairs, Named, Pair, open_pairs, settled}
use Rattle.ct_base.specs.Spares.{SparesFiles, SparesReplay}
use Rattle.ct_base.specs.State.{SameState}
use Rattle.ct_base.specs.Walk.{page_count}
use Rattle.ct_commit.specs.Rest.{IsAtRest}
use Rattle.ct_commit.proofs.Pages.{record_off, root_off, settles_page}
use Rattle.ct_commit.proofs.States.{closed_of}
use Rattle.ct_image.proofs.Steps.{page_at-root}
use Rattle.ct_mount.specs.Mounting.{Recovers, SparesBut}
use Rattle.ct_mount.proofs.Agreeing.{settles_state}
use Rattle.ct_pm.specs.Device.{EachNow, LeavesOnly, MakesOnly, NothingPending, SameOff}
use Rattle.ct_pm.specs.Images.{History, reads}
use Rattle.ct_pm.specs.Phase.{Crash}
use Rattle.ct_pm.proofs.Over.{stores_over}
use Rattle.ct_pm.proofs.Told.{both, started, weaker}
use Rattle.ct_record.specs.Record.{InRecord, IsStaging, OpensOnly, SettlesTo}
use Rattle.ct_record.proofs.Applying.{gives_named}
use Rattle.ct_record.proofs.Lawful.{shut_few}
use Rattle.ct_recover.specs.Settling.{Settling}
use Rattle.ct_state.proofs.Head.{settled_head, settled_size}
use Rattle.ct_state.proofs.Settle.{settled_is_shut, settled_twice, settled_unstaged}
use Rattle.ct_state.proofs.States.{SameHead, head_of, head_on, head_rules, state_here, state_lands}
use Rattle.ct_state.proofs.Whole.{whole_of}
use Rattle.ct_tree.specs.Lands.{Lands}
use Rattle.ct_tree.specs.Tree.{Tree}

-- settling that came to its end, or stopped on the way
pub record Settles (was : List ℕ) (from to : Option History) (now : List ℕ) : Type 0 where
  pub any_moment : LeavesOnly from to (SettlesTo was)
  pub reads : SettlesTo was now
  pub lawful : LeavesOnly from to (HasFewPairs (slice_index was 512))
  pub reads_lawful : HasFewPairs (slice_index was 512) now
  pub opens : LeavesOnly from to (OpensOnly (open_pairs was))
  pub reads_opens : OpensOnly (open_pairs was) now
  pub made : MakesOnly (Settling was) from to

-- ---- what the words settle to is at rest

module _ {was : List ℕ} (head : HasHead was) where
  same_head : SameHead was (settled was)
  same_head = record {
    lawful = head.recorded;
    lawful_too = (shut_few 0 (settled was) (settled_is_shut was)).lawful;
    words = settled_head was head.recorded;
    size = settled_size was head.recorded;
  }

  idle_head : HasHead (settled was)
  idle_head = head_of (λ r. head_on same_head r (head_rules head r))

  module _ (sound : Sound (settled was)) where
    pub idle_rest : IsAtRest (settled was)
    idle_rest =
        let h = idle_head in
        let some : 34 ≤ page_count (settled was) = omega (arith, h.count.0) in
        record {
          head = h;
          sound = sound;
          shut = settled_is_shut was;
          tables = (whole_of (settled was) (settled_unstaged was) some h.count.1 sound).tables;
        }

    -- what lies under a live file of what an image settles to lay under one before
    file_page : (image : List ℕ) {page : ℕ} → SettlesTo was image → IsFilePage (settled image) page → IsFilePage (settled was) page
    file_page image settles is =
        settles_page image (closed_of idle_rest) (subst (λ l. SameOff InRecord (settled image) l) (sym (settled_twice was)) settles) is

    -- the root table lies under no file
    root_spares : (word : ℕ) → IsStaging word → IsFilePage (settled was) (word / 512) → ⊥
    root_spares word staging is = root_off word (closed_of idle_rest) (omega (arith, staging.0, staging.1)) is

    pub settling_spares : (image : List ℕ) (word value : ℕ) → SettlesTo was image → Settling was word value → SparesBut (open_pairs was) image word value
    settling_spares image word value settles (inl inside) is = absurd (record_off word (closed_of idle_rest) inside (file_page image settles is))
    settling_spares image word value settles (inr (inl gives)) is = gives_named (open_pairs was) word value gives
    settling_spares image word value settles (inr (inr staging)) is = absurd (root_spares word staging.0 (file_page image settles is))

    module _ (spares : SparesReplay was) where
      pub settling_spares_files : (image : List ℕ) (word value : ℕ) → SettlesTo was image → Settling was word value → SparesFiles image word value
      settling_spares_files image word value settles settling is =
          spares word (settling_spares image word value settles settling is) (file_page image settles is)

      pub replay_spares : (image : List ℕ) → SettlesTo was image → OpensOnly (open_pairs was) image → SparesReplay image
      replay_spares image settles (inl none) word named is = subst (λ (ps : List Pair). Named ps word) none named
      replay_spares image settles (inr same) word named is = spares word (subst (λ (ps : List Pair). Named ps word) same named) (file_page image settles is)

-- ---- moments

module _ {was now : List ℕ} {from to : Option History} (head : HasHead was) (s : Settles was from to now) where
  -- every image is of the state of the words
  pub state_moments : LeavesOnly from to (SameState was)
  state_moments = weaker (SameState was) (λ image has. settles_state head.recorded has.1.lawful has.0) (both s.any_moment s.lawful)

  pub state_reads : SameState was now
  state_reads = settles_state head.recorded s.reads_lawful.lawful s.reads

  pub head_after : HasHead now
  head_after = head_of (λ r. (state_reads.head r).0 (head_rules head r))

  pub recovers : (t : Tree) → Lands was t → Recovers t was from to now
  recovers t lands = record {
    moments = weaker (λ image. Lands image t) (λ image same. state_lands same lands) state_moments;
    reads = state_lands state_reads lands;
    stores = stores_over (SparesBut (open_pairs was)) (λ image word value settles settling. settling_spares head lands.sound image word value settles settling) s.any_moment s.made;
    spares = λ spares. record {
      moments = weaker (Crash (λ image. Lands image t) (slice_index was 512)) (λ image has. record {
        has = state_lands (settles_state head.recorded has.1.0.lawful has.0) lands;
        few = has.1.0;
        spares = replay_spares head lands.sound spares image has.0 has.1.1;
      }) (both s.any_moment (both s.lawful s.opens));
      stores = stores_over SparesFiles (λ image word value settles settling. settling_spares_files head lands.sound spares image word value settles settling) s.any_moment s.made;
      reads = record {
        has = state_lands state_reads lands;
        few = s.reads_lawful;
        spares = replay_spares head lands.sound spares now s.reads s.reads_opens;
      };
    };
  }

-- ---- nothing is done

now_of : (told : Option History) (words : List ℕ) (P : List ℕ → Type 0) → IfSome told (λ h. words ≡ reads h) → NothingPending told → P words → EachNow told P
now_of None words P replays settled here = tt
now_of (Some h) words P replays settled here = λ image allowed. subst P (replays ∙ sym (settled image allowed)) here

pub state_still : {words : List ℕ} {told : Option History} → IfSome told (λ h. words ≡ reads h) → NothingPending told → LeavesOnly told told (SameState words)
state_still {words} {told} replays settled = started told (SameState words) (now_of told words (SameState words) replays settled (state_here words))
