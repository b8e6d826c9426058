-- The kinds of answers: which ones an ask may have, and for which causes the machine refuses it.
use Rattle.std.specs.Prelude.{◌≤◌, not, IsTrue}
use Rattle.octets.specs.Cause.{number_of}
use Rattle.octets.specs.declared.cause.Cause.{Cause}
use Rattle.octets.specs.declared.cause.Cause.TheVariants.{NoBasicRule, WrongDestination, FragmentsFull, Spoofed, NotDefault, NoBinding, NoPort}
use Rattle.nat_model.specs.declared.answer.Answer.{Answer}
use Rattle.nat_model.specs.declared.answer.Answer.TheVariants.{Out, Turn, In, Kept, Held, Refused}
use Rattle.nat_model.specs.declared.ask.Ask.{Ask}
use Rattle.nat_model.specs.declared.ask.Ask.TheVariants.{Outward, Inward, Keep}
use Rattle.nat_model.specs.declared.ask.Far.TheVariants.{Six, Turned}
use Rattle.nat_model.specs.declared.ask.Part.{Part}
use Rattle.nat_model.specs.declared.ask.Part.TheVariants.{Whole, First, Later}
use Rattle.nat_model.specs.Fragment.{part_of}

-- the causes for which a machine refuses are those from NoBasicRule to NoPort
abbrev pub IsMachineCause : Cause → Type 0
IsMachineCause cause = (14 ≤ number_of cause) × (number_of cause ≤ 21)

-- a packet from the LAN goes out, turns, waits or is refused
abbrev pub IsOutwardAnswer : Answer → Type 0
IsOutwardAnswer (Out from port src6 dst6 freed) = Unit {0}
IsOutwardAnswer (Turn from port freed) = Unit {0}
IsOutwardAnswer (In to port from peer freed) = ⊥
IsOutwardAnswer (Kept port until) = ⊥
IsOutwardAnswer Held = Unit {0}
IsOutwardAnswer (Refused cause freed) = IsMachineCause cause

-- one to the edge, from the access network or turned, comes in, waits or is refused
abbrev pub IsInwardAnswer : Answer → Type 0
IsInwardAnswer (Out from port src6 dst6 freed) = ⊥
IsInwardAnswer (Turn from port freed) = ⊥
IsInwardAnswer (In to port from peer freed) = Unit {0}
IsInwardAnswer (Kept port until) = ⊥
IsInwardAnswer Held = Unit {0}
IsInwardAnswer (Refused cause freed) = IsMachineCause cause

-- a port is kept or refused
abbrev pub IsKeepAnswer : Answer → Type 0
IsKeepAnswer (Out from port src6 dst6 freed) = ⊥
IsKeepAnswer (Turn from port freed) = ⊥
IsKeepAnswer (In to port from peer freed) = ⊥
IsKeepAnswer (Kept port until) = Unit {0}
IsKeepAnswer Held = ⊥
IsKeepAnswer (Refused cause freed) = IsMachineCause cause

-- an answer is of the kind of an ask
abbrev pub IsAnswerTo : Ask → Answer → Type 0
IsAnswerTo (Outward fault proto near far flags part) answer = IsOutwardAnswer answer
IsAnswerTo (Inward fault proto port far flags part) answer = IsInwardAnswer answer
IsAnswerTo (Keep proto host host_port port until) answer = IsKeepAnswer answer

-- the part is a first fragment, a later one, or one of the two
abbrev pub IsFirst : Part → Type 0
IsFirst Whole = ⊥
IsFirst (First key) = Unit {0}
IsFirst (Later key octets) = ⊥

abbrev pub IsLater : Part → Type 0
IsLater Whole = ⊥
IsLater (First key) = ⊥
IsLater (Later key octets) = Unit {0}

abbrev pub IsFragment : Part → Type 0
IsFragment Whole = ⊥
IsFragment (First key) = Unit {0}
IsFragment (Later key octets) = Unit {0}

-- the ask is about a packet to the edge, and about one from the access network
abbrev pub IsInward : Ask → Type 0
IsInward (Outward fault proto near far flags part) = ⊥
IsInward (Inward fault proto port far flags part) = Unit {0}
IsInward (Keep proto host host_port port until) = ⊥

abbrev pub IsFromAccess : Ask → Type 0
IsFromAccess (Outward fault proto near far flags part) = ⊥
IsFromAccess (Inward fault proto port (Six dst src peer far_port) flags part) = Unit {0}
IsFromAccess (Inward fault proto port (Turned dst src peer far_port) flags part) = ⊥
IsFromAccess (Keep proto host host_port port until) = ⊥

-- the ask goes by a binding that is there: a packet to the edge, and an error from the LAN
abbrev pub NeedsBinding : Ask → Type 0
NeedsBinding (Outward fault proto near far flags part) = IsTrue fault
NeedsBinding (Inward fault proto port far flags part) = Unit {0}
NeedsBinding (Keep proto host host_port port until) = ⊥

-- the ask claims a port where its host end has none: a flow from the LAN, and a port that is to be kept
abbrev pub MayClaim : Ask → Type 0
MayClaim (Outward fault proto near far flags part) = IsTrue (not fault)
MayClaim (Inward fault proto port far flags part) = ⊥
MayClaim (Keep proto host host_port port until) = Unit {0}

-- which asks the machine refuses for a cause
abbrev pub MayRefuse : Cause → Ask → Type 0
MayRefuse NoBasicRule ask = Unit {0}
MayRefuse WrongDestination ask = IsInward ask
MayRefuse FragmentsFull ask = IsFragment (part_of ask)
MayRefuse Spoofed ask = IsFromAccess ask
MayRefuse NotDefault ask = IsFromAccess ask
MayRefuse NoBinding ask = NeedsBinding ask
MayRefuse NoPort ask = MayClaim ask
MayRefuse _ ask = ⊥
