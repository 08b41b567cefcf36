-- What a contract sees of a device.
use Rattle.std.specs.Prelude.{ℕ}
use Rattle.byte_streams.specs.declared.device.Device.{Device}

-- the reader or writer in it
abbrev pub inner_of : {T : Type 0} → Device T → T
inner_of device = device.inner

-- how many calls failed
abbrev pub failures_of : {T : Type 0} → Device T → ℕ
failures_of device = device.failures
