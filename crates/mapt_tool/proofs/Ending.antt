-- From how a command's reading and its writing ended to what the top call promises.
use Rattle.std.proofs.Common.{◌≡◌, ◌⊎◌, ℕ, ◌+◌, List, Option, Some, Result, Ok, Err, refl, sym, ap, subst, ◌∙◌, inl, inr, arith}
use Rattle.octets.specs.Count.{Rose, RoseBy}
use Rattle.outside.specs.Files.{Files}
use Rattle.outside.specs.Seen.{FolderSeen, SinkSeen}
use Rattle.outside.specs.declared.file_id.FileId.{FileId}
use Rattle.mapt_tool.specs.declared.status.Status.{Status}
use Rattle.mapt_tool.specs.declared.status.Status.TheVariants.{Done, Usage, ReadFault, WriteFault, SetupRefused, CaptureRefused, TooLong, NoMemory, NotBuilt}
use Rattle.mapt_tool.specs.Carried.{Outside, Unfinished, Carried}
use Rattle.mapt_tool.specs.Course.{Course}
use Rattle.mapt_tool.specs.Ended.{ComesTo, FoundTooLong, Ended, HandedOut, AreToldOf, IsToldLonger, handing}
use Rattle.mapt_tool.specs.Limits.{file_limit}
use Rattle.mapt_tool.specs.Outcome.{Comes, ComesTooFar, Outcome, telling}
use Rattle.mapt_tool.specs.Planned.{Planned}
use Rattle.mapt_tool.specs.Reading.{Read, Next, gives, refuses, wants, lacks, AreOf, octets_of}
use Rattle.mapt_tool.specs.Request.{Request, Asks, IsUsage}
use Rattle.mapt_tool.specs.Serves.{Ends, NothingFailed, Tells, Serves}
use Rattle.mapt_tool.proofs.Bounds.{course_bounded}
use Rattle.mapt_tool.proofs.Courses.{course_single}
use Rattle.mapt_tool.proofs.Forms.{one_request}
use Rattle.mapt_tool.proofs.Single.{EndsAt, same_value, same_fault, same_file}

-- ---- after the reading, the writing

pub carried_ends : (request : Request) (old mid new : Outside) (plan : Planned) (status : Status) → ComesTo (Course request) old.folder mid.folder (gives plan) → mid.sink ≡ old.sink → Carried mid new plan status → Ends request old new status
carried_ends request old mid new plan Done read silent done =
    record { mid = mid; plan = plan; planned = record { read = read; silent = silent }; finished = done }
carried_ends request old mid new plan (WriteFault file) read silent failed =
    record { mid = mid; plan = plan; planned = record { read = read; silent = silent }; unfinished = failed }
carried_ends request old mid new plan NoMemory read silent begun =
    inr (record { mid = mid; plan = plan; planned = record { read = read; silent = silent }; begun = begun.0; silent = begun.1 })
carried_ends request old mid new plan (Usage number) read silent none = absurd none
carried_ends request old mid new plan (ReadFault file) read silent none = absurd none
carried_ends request old mid new plan (TooLong file) read silent none = absurd none
carried_ends request old mid new plan refusal read silent none = absurd none

-- ---- a reading that ended before

too_long_handed : (request : Request) (old new : FolderSeen) (file : FileId) (found : FoundTooLong (Course request) old new file) → RoseBy (file_limit + 1) old.handed new.handed
too_long_handed request old new file found =
    let bounded = course_bounded request found.within.reads file found.name found.limit found.within.reached in
    let handed : new.handed ≡ (handing old (octets_of found.within.reads + (found.limit + 1))).handed = ap (λ (f : FolderSeen). f.handed) found.within.seen in
    omega (arith, bounded, handed)

pub stopped_ends : (request : Request) (old new : Outside) (status : Status) → Ended (Course request) old.folder new.folder (Err status) → new.sink ≡ old.sink → Ends request old new status
stopped_ends request old new (ReadFault file) stopped silent = record { failed = stopped; silent = silent }
stopped_ends request old new (TooLong file) stopped silent =
    record { found = stopped; handed_out = too_long_handed request old.folder new.folder file stopped; silent = silent }
stopped_ends request old new NoMemory stopped silent = inl (stopped, silent)
stopped_ends request old new Done stopped silent = absurd stopped
stopped_ends request old new (Usage number) stopped silent = absurd stopped
stopped_ends request old new (WriteFault file) stopped silent = absurd stopped
stopped_ends request old new refusal stopped silent = record { read = stopped; silent = silent }

-- ---- one outcome at most

abbrev planned : Planned → Result Planned Status
planned plan = Ok plan

abbrev refused : Status → Result Planned Status
refused status = Err status

abbrev given : Planned → Next Planned Status
given plan = gives plan

-- what the command comes to tells the outcome
abbrev IsToldBy : Next Planned Status → Result Planned Status → Type 0
IsToldBy (gives plan) answer = answer ≡ Ok plan
IsToldBy (refuses status) answer = (answer ≡ Err status) × ((file : FileId) → status ≡ TooLong file → ⊥)
IsToldBy (wants file name limit) answer = answer ≡ Err (TooLong file)
IsToldBy lacks answer = ⊥

-- an outcome by what the command comes to
record OutcomeBy (request : Request) (files : Files) (answer : Result Planned Status) : Type 0 where
  reads : List Read
  next : Next Planned Status
  ends : EndsAt (Course request) files reads next
  told : IsToldBy next answer

by_refusal : (request : Request) (files : Files) (status : Status) → ((file : FileId) → status ≡ TooLong file → ⊥) → Comes (Course request) files (refuses status) → OutcomeBy request files (Err status)
by_refusal request files status other comes =
    record { reads = comes.reads; next = refuses status; ends = record { held = comes.held; end = tt; reached = comes.reached }; told = (refl, other) }

outcome_by : (request : Request) (files : Files) (answer : Result Planned Status) → Outcome request files answer → OutcomeBy request files answer
outcome_by request files (Ok plan) comes =
    record { reads = comes.reads; next = gives plan; ends = record { held = comes.held; end = tt; reached = comes.reached }; told = refl }
outcome_by request files (Err (TooLong file)) comes =
    record { reads = comes.wanted.reads; next = wants file comes.name comes.limit; ends = record { held = comes.wanted.held; end = comes.longer; reached = comes.wanted.reached }; told = refl }
outcome_by request files (Err Done) comes = by_refusal request files Done (λ file same. cc) comes
outcome_by request files (Err (Usage number)) comes = by_refusal request files (Usage number) (λ file same. cc) comes
outcome_by request files (Err (ReadFault named)) comes = by_refusal request files (ReadFault named) (λ file same. cc) comes
outcome_by request files (Err (WriteFault named)) comes = by_refusal request files (WriteFault named) (λ file same. cc) comes
outcome_by request files (Err (SetupRefused cause place)) comes = by_refusal request files (SetupRefused cause place) (λ file same. cc) comes
outcome_by request files (Err (CaptureRefused named fault)) comes = by_refusal request files (CaptureRefused named fault) (λ file same. cc) comes
outcome_by request files (Err NoMemory) comes = by_refusal request files NoMemory (λ file same. cc) comes
outcome_by request files (Err (NotBuilt named)) comes = by_refusal request files (NotBuilt named) (λ file same. cc) comes

-- a next thing tells one outcome
one_told : (next other : Next Planned Status) (one two : Result Planned Status) → next ≡ other → IsToldBy next one → IsToldBy other two → one ≡ two
one_told (gives x) (gives y) one two same a b = a ∙ ap planned (same_value x y (gives x) refl same) ∙ sym b
one_told (refuses e) (refuses f) one two same a b = a.0 ∙ ap refused (same_fault e f (refuses e) refl same) ∙ sym b.0
one_told (wants x m k) (wants y n l) one two same a b = a ∙ ap (λ (file : FileId). refused (TooLong file)) (same_file x y m n k l (wants x m k) refl same).0 ∙ sym b
one_told (gives x) (refuses f) one two same a b = absurd (cc)
one_told (gives x) (wants y n l) one two same a b = absurd (cc)
one_told (refuses e) (gives y) one two same a b = absurd (cc)
one_told (refuses e) (wants y n l) one two same a b = absurd (cc)
one_told (wants x m k) (gives y) one two same a b = absurd (cc)
one_told (wants x m k) (refuses f) one two same a b = absurd (cc)
one_told lacks other one two same a b = absurd a
one_told next lacks one two same a b = absurd b

pub one_outcome : (request : Request) (files : Files) (one other : Result Planned Status) → Outcome request files one → Outcome request files other → one ≡ other
one_outcome request files one other a b =
    let x = outcome_by request files one a in
    let y = outcome_by request files other b in
    let same = course_single request files x.reads y.reads x.next y.next x.ends y.ends in
    one_told x.next y.next one other same.next_same x.told y.told

-- ---- the status tells an outcome

told_of : (old : FolderSeen) (files : Files) (reads : List Read) → old.files ≡ Some files → AreToldOf old.files reads → AreOf files reads
told_of old files reads is told = subst (λ (f : Option Files). AreToldOf f reads) is told

comes_of : (request : Request) (old new : FolderSeen) (files : Files) (next : Next Planned Status) → old.files ≡ Some files → ComesTo (Course request) old new next → Comes (Course request) files next
comes_of request old new files next is comes = record { reads = comes.reads; held = told_of old files comes.reads is comes.handed.told; reached = comes.reached }

abbrev IsTold : Request → Files → Status → Type 0
IsTold request files status = (status ≡ NoMemory) ⊎ ((answer : Result Planned Status) × Outcome request files answer × (status ≡ telling answer))

abbrev seen_count : FolderSeen → ℕ
seen_count folder = folder.faults

too_far : (request : Request) (old new : FolderSeen) (files : Files) (file : FileId) → old.files ≡ Some files → FoundTooLong (Course request) old new file → ComesTooFar (Course request) files file
too_far request old new files file is found = record {
  name = found.name;
  limit = found.limit;
  wanted = record { reads = found.within.reads; held = told_of old files found.within.reads is found.within.told; reached = found.within.reached };
  longer = subst (λ (f : Option Files). IsToldLonger f found.name found.limit) is found.longer;
}

-- a read that failed shows in the folder's count
rose_read : (old mid new : FolderSeen) (more : ℕ) → mid ≡ handing old more → Rose mid.faults new.faults → Rose old.faults new.faults
rose_read old mid new more is rose = rw (ap seen_count is) at rose

-- a write that failed shows in one of the counts
unwritten_rose : (old mid new : Outside) (plan : Planned) (file : FileId) (reads : List Read) → HandedOut old.folder mid.folder reads → mid.sink ≡ old.sink → Unfinished mid new plan file → NothingFailed old new → ⊥
unwritten_rose old mid new plan file reads handed silent (inl failed) sound =
    let count : mid.folder.faults ≡ old.folder.faults = ap seen_count handed.seen in
    let rose : Rose mid.folder.faults new.folder.faults = failed.0.failed.rose in
    sound.folder (rw count at rose)
unwritten_rose old mid new plan file reads handed silent (inr failed) sound =
    sound.sink (rw (ap (λ (s : SinkSeen). s.faults) silent) at failed.1.failed)

pub tells_one : (request : Request) (old new : Outside) (files : Files) (status : Status) → old.folder.files ≡ Some files → Ends request old new status → NothingFailed old new → IsTold request files status
tells_one request old new files Done is ends sound =
    inr (Ok ends.plan, comes_of request old.folder ends.mid.folder files (gives ends.plan) is ends.planned.read, refl)
tells_one request old new files NoMemory is ends sound = inl refl
tells_one request old new files (Usage number) is ends sound = absurd ends
tells_one request old new files (ReadFault file) is ends sound =
    absurd (sound.folder (rose_read old.folder ends.failed.mid new.folder (octets_of ends.failed.within.reads + ends.failed.part) ends.failed.within.seen ends.failed.failed.rose))
tells_one request old new files (WriteFault file) is ends sound = absurd (unwritten_rose old ends.mid new ends.plan file ends.planned.read.reads ends.planned.read.handed ends.planned.silent ends.unfinished sound)
tells_one request old new files (TooLong file) is ends sound = inr (Err (TooLong file), too_far request old.folder new.folder files file is ends.found, refl)
tells_one request old new files (SetupRefused cause place) is ends sound = inr (Err (SetupRefused cause place), comes_of request old.folder new.folder files (refuses (SetupRefused cause place)) is ends.read, refl)
tells_one request old new files (CaptureRefused file fault) is ends sound = inr (Err (CaptureRefused file fault), comes_of request old.folder new.folder files (refuses (CaptureRefused file fault)) is ends.read, refl)
tells_one request old new files (NotBuilt file) is ends sound = inr (Err (NotBuilt file), comes_of request old.folder new.folder files (refuses (NotBuilt file)) is ends.read, refl)

tells_exactly : (request : Request) (files : Files) (status : Status) (answer : Result Planned Status) → IsTold request files status → Outcome request files answer → Tells status answer
tells_exactly request files status answer (inl none) outcome = inr none
tells_exactly request files status answer (inr told) outcome = inl (told.2 ∙ ap telling (one_outcome request files told.0 answer told.1 outcome))

-- ---- all of the promise

pub served_form : (words : List (List ℕ)) (request : Request) (old new : Outside) (status : Status) → Asks words request → Ends request old new status → Serves words old new status
served_form words request old new status asks ends =
    let one = λ (other : Request) (asked : Asks words other). one_request words other request asked asks in
    record {
      no_form = λ none. absurd (none request asks);
      form = λ other asked. subst (λ (r : Request). Ends r old new status) (sym (one other asked)) ends;
      complete = λ other files asked is sound. tells_one other old new files status is (subst (λ (r : Request). Ends r old new status) (sym (one other asked)) ends) sound;
      exact = λ other files answer asked is outcome sound.
          tells_exactly other files status answer (tells_one other old new files status is (subst (λ (r : Request). Ends r old new status) (sym (one other asked)) ends) sound) outcome;
    }

pub served_no_form : (words : List (List ℕ)) (number : ℕ) (outside : Outside) → IsUsage words number → Serves words outside outside (Usage number)
served_no_form words number outside usage = record {
  no_form = λ none. (number, usage, refl, refl);
  form = λ request asks. absurd (usage.none request asks);
  complete = λ request files asks is sound. absurd (usage.none request asks);
  exact = λ request files answer asks is outcome sound. absurd (usage.none request asks);
}
