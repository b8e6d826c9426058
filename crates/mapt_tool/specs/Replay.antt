-- What a replay comes to, for a configuration of one edge.
use Rattle.std.specs.Prelude.{◌≡◌, ℕ, Bool, false, ◌||◌, nat_lt, length, List, [], ◌∷◌, ◌++◌, codes, Option, Some, None, is_some, Result, Ok, Err}
use Rattle.outside.specs.declared.file_id.FileId.TheVariants.{Config, InLan, OutAccess, OutCore}
use Rattle.pcap_files.specs.declared.records.Record.{Record}
use Rattle.pcap_files.specs.declared.fault.CaptureFault.{CaptureFault}
use Rattle.pcap_files.specs.Capture.{capture}
use Rattle.one_edge.specs.declared.captures.Captures.{Captures}
use Rattle.one_edge.specs.Edge.{Edge, IsEdgeUnder, LacksEdge}
use Rattle.one_edge.specs.Served.{AreReplayed}
use Rattle.one_edge.specs.Crossed.{AreCaptured}
use Rattle.setup_tables.specs.declared.edge.EdgeLine.{EdgeLine}
use Rattle.mapt_setup.specs.declared.setup.Setup.{Setup}
use Rattle.mapt_tool.specs.declared.status.Status.{Status}
use Rattle.mapt_tool.specs.declared.status.Status.TheVariants.{CaptureRefused, NotBuilt}
use Rattle.mapt_tool.specs.Limits.{limit_of}
use Rattle.mapt_setup.specs.Fit.{most_records}
use Rattle.mapt_tool.specs.Planned.{Planned}
use Rattle.mapt_tool.specs.Reading.{Read, Next, Answers, Reads, Then}

-- what is replayed: an edge, and the capture of its LAN if there is one
pub record Replayed : Type 0 where
  pub edge : Edge
  pub lan : Option (List ℕ)

-- what a replay is given beside its configuration: with what the names of the files begin that it writes, and how many
-- octets the command may still read
pub record Target : Type 0 where
  pub prefix : List ℕ
  pub left : ℕ

-- the only edge of a setup that has no capture but that of its LAN, no forward and no change
abbrev pub only_one : Bool → List EdgeLine → Option EdgeLine
only_one false (line ∷ []) = Some line
only_one _ _ = None

-- it has another capture, or a forward, or a change
abbrev pub asks_for_more : Setup → Bool
asks_for_more setup =
    (is_some setup.access || is_some setup.core) || (nat_lt 0 (length setup.forwards) || nat_lt 0 (length setup.changes))

abbrev pub only_edge : Setup → Option EdgeLine
only_edge setup = only_one (asks_for_more setup) setup.edges

-- it is replayed where it holds an address and a port set with a port that it may claim
abbrev pub IsEdgeOf : Setup → Option EdgeLine → Replayed → Type 0
IsEdgeOf setup None x = ⊥
IsEdgeOf setup (Some line) x = IsEdgeUnder setup.book line.prefix setup.mtus x.edge × (x.lan ≡ line.capture)

abbrev pub HasNoEdge : Setup → Option EdgeLine → Type 0
HasNoEdge setup None = Unit {0}
HasNoEdge setup (Some line) = LacksEdge setup.book line.prefix

abbrev pub IsReplayed : Setup → Result Replayed Status → Type 0
IsReplayed setup (Ok x) = IsEdgeOf setup (only_edge setup) x
IsReplayed setup (Err status) = (status ≡ NotBuilt Config) × HasNoEdge setup (only_edge setup)

-- all that a replay does: the captures of the access network and of the core
abbrev pub replay_plan : List ℕ → Captures → Planned
replay_plan prefix made = record {
  writes =
      record { file = OutAccess; name = prefix ++ codes "access.pcap"; bytes = made.access }
      ∷ record { file = OutCore; name = prefix ++ codes "core.pcap"; bytes = made.core }
      ∷ [];
  text = [];
}

-- by the records of the LAN
abbrev pub IsPlanned : List ℕ → Edge → List Record → Result Planned Status → Type 0
IsPlanned prefix e records (Ok plan) =
    AreReplayed e records × (made : Captures) × AreCaptured e records made × (plan ≡ replay_plan prefix made)
IsPlanned prefix e records (Err status) = (status ≡ NotBuilt (InLan 0)) × (AreReplayed e records → ⊥)

-- by the octets of the LAN's capture
abbrev pub IsPlannedBy : List ℕ → Edge → Result (List Record) CaptureFault → Result Planned Status → Type 0
IsPlannedBy prefix e (Ok records) answer = IsPlanned prefix e records answer
IsPlannedBy prefix e (Err fault) answer = answer ≡ Err (CaptureRefused (InLan 0) fault)

-- by the LAN's capture, which may have what is left of the command's octets; without one there are no records
abbrev pub ReplaysLan : Target → Edge → Option (List ℕ) → List Read → Next Planned Status → Type 0
ReplaysLan to e None = Answers (IsPlanned to.prefix e [])
ReplaysLan to e (Some name) =
    Then (Reads (InLan 0) name (limit_of to.left)) (λ octets. Answers (IsPlannedBy to.prefix e (capture most_records octets)))

-- by the setup of the configuration
abbrev pub ReplaysSetup : Target → Setup → List Read → Next Planned Status → Type 0
ReplaysSetup to setup = Then (Answers (IsReplayed setup)) (λ x. ReplaysLan to x.edge x.lan)
