-- What a handle owns.
use base.Fml.{Fml, ftrue, ffalse}
use base.Stored.{Coded}
use denote.RawPtr.{Ptr}
use Rattle.std.specs.Prelude.{Bool, true, false, Option, Some, None}
use Rattle.std.specs.Coded.{coded_option}
use Rattle.std.specs.Box.Ownership.{box_owns}
use Rattle.std.specs.Global.{Global}
use Rattle.std_heap.specs.contracts.GlobalAllocator.TheImpl.{ghosts}
use Rattle.msa.specs.contracts.seat.Seat.{the_row}

-- the block of the seat, where there is one
abbrev pub seat_owns : Bool → Global → Ptr → Option the_row.Denot → Fml
seat_owns false alloc at None = ftrue
seat_owns false alloc at (Some seat) = ffalse
seat_owns true alloc at None = ffalse
seat_owns true alloc at (Some seat) = box_owns (ghosts.dealloc_token alloc) the_row at seat

abbrev pub seat_coded : Coded (Option the_row.Denot)
seat_coded = coded_option the_row.coded
