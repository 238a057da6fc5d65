-- What callers see of a file system.
use Rattle.std.specs.Prelude.{Option, Result, Ok, Err}
use Rattle.ct_call.specs.Mounted.{Volume}
use Rattle.ct_call.specs.Seen.{dev_in, device_in, ready_in}
use Rattle.ct_call.specs.declared.mount.NoMount.{NoMount}
use Rattle.ct_fs.specs.declared.system.Fs.{Fs}

-- the device and its free pages, and nothing where a call met a fault
abbrev pub mounts : {D : Type 0} {bound : _} → Fs D bound → Option (Volume D)
mounts fs = ready_in fs.state

abbrev pub device_of : {D : Type 0} {bound : _} → Fs D bound → Option D
device_of fs = device_in fs.state

-- the device, whether or not a call met a fault
abbrev pub fs_dev : {D : Type 0} {bound : _} → Fs D bound → D
fs_dev fs = dev_in fs.state fs.here

-- the device behind either answer
abbrev pub dev_after : {D : Type 0} {bound : _} → Result (Fs D bound) (NoMount D) → D
dev_after (Ok fs) = fs_dev fs
dev_after (Err no_mount) = no_mount.dev
