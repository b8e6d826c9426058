-- The exit status of each way in which a command ends.
use Rattle.std.specs.Prelude.{ℕ}
use Rattle.setup_tables.specs.declared.fault.SetupFault.{SetupFault}
use Rattle.setup_tables.specs.declared.fault.SetupFault.TheVariants as setup
use Rattle.mapt_tool.specs.declared.status.Status.{Status}
use Rattle.mapt_tool.specs.declared.status.Status.TheVariants.{Done, Usage, ReadFault, WriteFault, SetupRefused, CaptureRefused, TooLong, NoMemory, NotBuilt}

abbrev pub status_number : Status → ℕ
status_number Done = 0
status_number (Usage i) = 2
status_number (ReadFault file) = 3
status_number (WriteFault file) = 4
status_number (SetupRefused cause place) = 5
status_number (CaptureRefused file fault) = 6
status_number (TooLong file) = 7
status_number NoMemory = 9
status_number (NotBuilt file) = 11

-- how a command ends for what is wrong with its configuration
abbrev pub status_of : SetupFault → Status
status_of (setup.Refused cause place) = SetupRefused cause place
status_of setup.NoMemory = NoMemory
