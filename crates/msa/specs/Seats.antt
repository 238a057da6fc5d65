-- What a seat shows.
use Rattle.std.specs.Prelude.{Option}
use Rattle.ct_call.specs.Mounted.{Volume}
use Rattle.pm_outbox.specs.declared.outbox.OutboxPm.{OutboxPm}
use Rattle.msa.specs.Mounts.{mounted_in}
use Rattle.msa.specs.declared.seat.Seat.{Seat}

abbrev pub mount_in : Seat → Option (Volume OutboxPm)
mount_in seat = mounted_in seat.fs
