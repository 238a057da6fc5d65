-- What a device with an outbox holds.
use Rattle.std.specs.Prelude.{ℕ, Bool, List}
use Rattle.ct_pm.specs.Images.{History}
use Rattle.pm_outbox.specs.Asked.{is_marked}
use Rattle.pm_outbox.specs.declared.ask.Ask.{Ask}
use Rattle.pm_outbox.specs.declared.outbox.OutboxPm.{OutboxPm}

-- the words as they read
abbrev pub words_of : OutboxPm → List ℕ
words_of device = device.words.items

abbrev pub pages_of : OutboxPm → ℕ
pages_of device = device.pages

-- how often memory for the outbox ran out
abbrev pub faults_of : OutboxPm → ℕ
faults_of device = device.faults

-- what the medium has still to see, in order
abbrev pub outbox_of : OutboxPm → List Ask
outbox_of device = device.asks.items

-- the start words and the steps
abbrev pub history : OutboxPm → History
history device = device.past.past

-- a word of the line has changed since it was asked last
abbrev pub reads_otherwise : OutboxPm → ℕ → Bool
reads_otherwise device line = is_marked (history device).start (history device).steps line
