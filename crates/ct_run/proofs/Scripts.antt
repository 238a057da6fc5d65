-- How a run ends whose script was served as it came.
use Rattle.std.proofs.Common.{◌≡◌, ℕ, ◌<◌, ◌≤◌, List, Option, Some, None, Ok, Err, length, refl, ap, arith, length-append}
use Rattle.std.specs.Io.KnownBytes.{Consumes, IsAtEnd}
use Rattle.std.specs.Prelude.{IfSome, IsSomeAnd}
use Rattle.std.specs.declared.result.Result.{Result}
use Rattle.ct_base.specs.Causes.{Rose}
use Rattle.ct_call.specs.Calls.{Keeps}
use Rattle.ct_call.specs.Seen.{faults_in}
use Rattle.ct_call.specs.declared.mount.State.{State}
use Rattle.ct_shell.specs.Moments.{Moment, moment_in}
use Rattle.ct_shell.specs.Stream.{LeavesOf, Streams}
use Rattle.ct_shell.specs.declared.script.StreamEnd.{StreamEnd}
use Rattle.ct_shell.specs.declared.script.StreamEnd.TheVariants.{Device, Output, Input, TooLong}
use Rattle.ct_tree.specs.Tree.{Tree}
use Rattle.ct_run.specs.Carried.{IsStanding, WorksAs, streams}
use Rattle.ct_run.specs.Ends.{HasCauses, IsServed, Leaves, stream_status}
use Rattle.ct_run.specs.Ways.{script}

-- a source that gave so many bytes had no fewer
pub gave_long : (rest rest' : Option (List ℕ)) (given : List ℕ) → Consumes rest rest' given → length given ≡ 16777217 → IfSome rest (λ text. 16777216 < length text)
gave_long None rest' given gave long = tt
gave_long (Some text) None given gave long = absurd gave
gave_long (Some text) (Some left) given gave long = omega (arith, ap length gave, length-append given left, long)

-- and one that is at its end had no more than it gave
pub gave_short : (rest rest' : Option (List ℕ)) (given : List ℕ) → Consumes rest rest' given → IsAtEnd rest' → length given ≤ 16777216 → IsSomeAnd rest (λ text. 16777216 < length text) → ⊥
gave_short None rest' given gave end short long = long
gave_short (Some text) None given gave end short long = gave
gave_short (Some text) (Some left) given gave end short long = omega (arith, ap length gave, length-append given left, ap length end, short, long)

module _ {T : Type 0} where
  pub stream_served : (r : Result T StreamEnd) → IsServed (stream_status r)
  stream_served (Ok done) = tt
  stream_served (Err Device) = tt
  stream_served (Err Output) = tt
  stream_served (Err Input) = tt
  stream_served (Err TooLong) = tt

  pub stream_causes : (r : Result T StreamEnd) (device device' source source' sink sink' : ℕ) → (r ≡ Err Device → Rose device device') → (r ≡ Err Input → Rose source source') → (r ≡ Err Output → Rose sink sink')
      → HasCauses (stream_status r) device device' source source' sink sink'
  stream_causes (Ok done) device device' source source' sink sink' device_rose source_rose sink_rose =
      record { device_fault = λ is. absurd (cc); read_fault = λ is. absurd (cc); write_fault = λ is. absurd (cc) }
  stream_causes (Err Device) device device' source source' sink sink' device_rose source_rose sink_rose =
      record { device_fault = λ is. device_rose refl; read_fault = λ is. absurd (cc); write_fault = λ is. absurd (cc) }
  stream_causes (Err Output) device device' source source' sink sink' device_rose source_rose sink_rose =
      record { device_fault = λ is. absurd (cc); read_fault = λ is. absurd (cc); write_fault = λ is. sink_rose refl }
  stream_causes (Err Input) device device' source source' sink sink' device_rose source_rose sink_rose =
      record { device_fault = λ is. absurd (cc); read_fault = λ is. source_rose refl; write_fault = λ is. absurd (cc) }
  stream_causes (Err TooLong) device device' source source' sink sink' device_rose source_rose sink_rose =
      record { device_fault = λ is. absurd (cc); read_fault = λ is. absurd (cc); write_fault = λ is. absurd (cc) }

  leaves_by : (r : Result T StreamEnd) (c : ℕ) (t : Tree) (given : List ℕ) (rest old new : Option (List ℕ)) (from to : Moment) → LeavesOf c t r given rest old new from to → Leaves c t (stream_status r) given rest old new from to
  leaves_by (Ok done) c t given rest old new from to leaves = leaves
  leaves_by (Err Device) c t given rest old new from to leaves = leaves
  leaves_by (Err Output) c t given rest old new from to leaves = leaves
  leaves_by (Err Input) c t given rest old new from to leaves = leaves
  leaves_by (Err TooLong) c t given rest old new from to leaves = leaves

-- what is left of a script that was served as it came
pub works_streams : {D S O T : Type 0} {bound : _} (r : Result T StreamEnd) (before after : Option (State D bound)) (stands : IsStanding before) (input input' : S) (out out' : O) (rest rest' old new : Option (List ℕ)) (source source' sink sink' : ℕ)
    → ((c : ℕ) (t : Tree) → Keeps c before t → Streams c t before after rest rest' old new r) → (r ≡ Err Input → Rose source source') → (r ≡ Err Output → Rose sink sink')
    → WorksAs script (stream_status r) before (moment_in after) (faults_in after) (streams input input' out out' rest rest' old new source source' sink sink')
works_streams r before after stands input input' out out' rest rest' old new source source' sink sink' serves source_rose sink_rose =
    let one = serves stands.0 stands.1.0 stands.1.1 in
    record {
      served = stream_served r;
      leaves = λ c t keeps.
          let s = serves c t keeps in
          record { given = s.given; gave = s.gave; leaves = leaves_by r c t s.given rest' old new (moment_in before) (moment_in after) s.leaves };
      later = one.later;
      causes = stream_causes r (faults_in before) (faults_in after) source source' sink sink' one.fault source_rose sink_rose;
    }
