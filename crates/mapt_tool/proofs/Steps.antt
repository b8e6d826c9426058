-- What is told of steps that follow one another.
use Rattle.std.proofs.Common.{◌≡◌, ℕ, ◌+◌, ◌≤◌, ◌<◌, List, [], ◌∷◌, ◌++◌, length, Option, None, Some, Result, Ok, Err, refl, ap, subst, ◌∙◌, inl, inr, arith}
use Rattle.std.proofs.lemmas.List.Sums.{sum_by-append}
use Rattle.std.proofs.lemmas.List.{length-take}
use Rattle.std.proofs.lemmas.List.Elements.{All-append, All-nil, All-cons}
use Rattle.octets.specs.Count.{counted}
use Rattle.outside.specs.Files.{Files, content_of}
use Rattle.outside.specs.Seen.{FolderSeen}
use Rattle.outside.specs.declared.file_id.FileId.{FileId}
use Rattle.mapt_tool.specs.declared.status.Status.{Status}
use Rattle.mapt_tool.specs.declared.status.Status.TheVariants.{Done, Usage, ReadFault, WriteFault, TooLong, NoMemory}
use Rattle.mapt_tool.specs.Ended.{AreToldOf, IsToldLonger, handing, HandedOut, ComesTo, Within, Lacked, Ended, Given}
use Rattle.mapt_tool.specs.Pieces.{HoldsFrom, IsContent, PieceFails}
use Rattle.mapt_tool.specs.Reading.{Read, Next, gives, refuses, wants, lacks, octets_of, Answers, Reads, Goes, Then}

-- counts add up
pub counted_twice : (h a b : ℕ) → counted (counted h a) b ≡ counted h (a + b)
counted_twice h a b = omega arith

pub handing_twice : (folder : FolderSeen) (a b : ℕ) → handing (handing folder a) b ≡ handing folder (a + b)
handing_twice folder a b = ap (λ (n : ℕ). record folder { handed = n }) (counted_twice folder.handed a b)

pub octets_of-append : (front back : List Read) → octets_of (front ++ back) ≡ octets_of front + octets_of back
octets_of-append front back = sum_by-append (λ (r : Read). length r.octets) front back

-- ---- what was handed out

told_none : (files : Option Files) → AreToldOf files []
told_none None = tt
told_none (Some files) = All-nil (λ (r : Read). r.octets ≡ content_of files r.name)

told_append : (files : Option Files) (front back : List Read) → AreToldOf files front → AreToldOf files back → AreToldOf files (front ++ back)
told_append None front back a b = tt
told_append (Some files) front back a b = All-append (λ (r : Read). r.octets ≡ content_of files r.name) front back a b

told_one : (files : Option Files) (file : FileId) (name octets : List ℕ) → IsContent files name octets → AreToldOf files (record { file = file; name = name; octets = octets } ∷ [])
told_one None file name octets whole = tt
told_one (Some files) file name octets whole =
    All-cons (λ (r : Read). r.octets ≡ content_of files r.name) (record { file = file; name = name; octets = octets }) [] whole (All-nil (λ (r : Read). r.octets ≡ content_of files r.name))

handing_none : (folder : FolderSeen) → folder ≡ handing folder 0
handing_none folder = ap (λ (n : ℕ). record folder { handed = n }) (omega arith)

pub handed_none : (folder : FolderSeen) → HandedOut folder folder []
handed_none folder = record { seen = handing_none folder; told = told_none folder.files }

files_kept : (old mid : FolderSeen) (reads : List Read) → HandedOut old mid reads → mid.files ≡ old.files
files_kept old mid reads handed = ap (λ (f : FolderSeen). f.files) handed.seen

handed_then : (old mid new : FolderSeen) (front back : List Read) (part : ℕ) → HandedOut old mid front → new ≡ handing mid (octets_of back + part) → new ≡ handing old (octets_of (front ++ back) + part)
handed_then old mid new front back part a b =
    let sums : octets_of front + (octets_of back + part) ≡ octets_of (front ++ back) + part = omega (arith, octets_of-append front back) in
    b ∙ ap (λ (f : FolderSeen). handing f (octets_of back + part)) a.seen ∙ handing_twice old (octets_of front) (octets_of back + part) ∙ ap (λ (n : ℕ). handing old n) sums

told_then : (old mid new : FolderSeen) (front back : List Read) → HandedOut old mid front → AreToldOf mid.files back → AreToldOf old.files (front ++ back)
told_then old mid new front back a b =
    told_append old.files front back a.told (subst (λ (files : Option Files). AreToldOf files back) (files_kept old mid front a) b)

handed_twice : (old mid new : FolderSeen) (front back : List Read) → HandedOut old mid front → HandedOut mid new back → HandedOut old new (front ++ back)
handed_twice old mid new front back a b =
    let none : octets_of back ≡ octets_of back + 0 = omega arith in
    let more : octets_of (front ++ back) + 0 ≡ octets_of (front ++ back) = omega arith in
    record {
      seen = handed_then old mid new front back 0 a (b.seen ∙ ap (λ (n : ℕ). handing mid n) none) ∙ ap (λ (n : ℕ). handing old n) more;
      told = told_then old mid new front back a b.told;
    }

-- ---- one step after another

then_reached : {A B E : Type 0} (First : List Read → Next A E → Type 0) (Second : A → List Read → Next B E → Type 0) (reads : List Read) (next : Next B E) → Goes First Second reads next → Then First Second reads next
then_reached First Second reads (gives y) goes = goes
then_reached First Second reads (refuses fault) goes = inr goes
then_reached First Second reads (wants file name limit) goes = inr goes
then_reached First Second reads lacks goes = inr goes

pub comes_then : {A B E : Type 0} (First : List Read → Next A E → Type 0) (Second : A → List Read → Next B E → Type 0) (old mid new : FolderSeen) (x : A) (next : Next B E)
    → ComesTo First old mid (gives x) → ComesTo (Second x) mid new next → ComesTo (Then First Second) old new next
comes_then First Second old mid new x next a b = record {
  reads = a.reads ++ b.reads;
  handed = handed_twice old mid new a.reads b.reads a.handed b.handed;
  reached = then_reached First Second (a.reads ++ b.reads) next (record { value = x; front = a.reads; back = b.reads; parts = refl; first = a.reached; second = b.reached });
}

within_then : {A B E : Type 0} (First : List Read → Next A E → Type 0) (Second : A → List Read → Next B E → Type 0) (old mid new : FolderSeen) (x : A) (file : FileId) (name : List ℕ) (limit part : ℕ)
    → ComesTo First old mid (gives x) → Within (Second x) mid new file name limit part → Within (Then First Second) old new file name limit part
within_then First Second old mid new x file name limit part a b = record {
  reads = a.reads ++ b.reads;
  seen = handed_then old mid new a.reads b.reads part a.handed b.seen;
  told = told_then old mid new a.reads b.reads a.handed b.told;
  reached = inr (record { value = x; front = a.reads; back = b.reads; parts = refl; first = a.reached; second = b.reached });
}

longer_kept : (old mid : FolderSeen) (reads : List Read) (name : List ℕ) (limit : ℕ) → HandedOut old mid reads → IsToldLonger mid.files name limit → IsToldLonger old.files name limit
longer_kept old mid reads name limit a b = subst (λ (files : Option Files). IsToldLonger files name limit) (files_kept old mid reads a) b

lacked_then : {A B E : Type 0} (First : List Read → Next A E → Type 0) (Second : A → List Read → Next B E → Type 0) (old mid new : FolderSeen) (x : A)
    → ComesTo First old mid (gives x) → Lacked (Second x) mid new → Lacked (Then First Second) old new
lacked_then First Second old mid new x a (inl b) = inl (comes_then First Second old mid new x lacks a b)
lacked_then First Second old mid new x a (inr b) = inr (record {
  file = b.file;
  name = b.name;
  limit = b.limit;
  part = b.part;
  within = within_then First Second old mid new x b.file b.name b.limit b.part a b.within;
  fits = b.fits;
})

-- where the first step gave a value, both end as the second one does
pub ends_then : {A B : Type 0} (First : List Read → Next A Status → Type 0) (Second : A → List Read → Next B Status → Type 0) (old mid new : FolderSeen) (x : A) (result : Result B Status)
    → Ended First old mid (Ok x) → Ended (Second x) mid new result → Ended (Then First Second) old new result
ends_then First Second old mid new x (Ok y) a b = comes_then First Second old mid new x (gives y) a b
ends_then First Second old mid new x (Err (ReadFault file)) a b = record {
  mid = b.mid;
  name = b.name;
  limit = b.limit;
  part = b.part;
  within = within_then First Second old mid b.mid x file b.name b.limit b.part a b.within;
  fits = b.fits;
  failed = b.failed;
  files = b.files ∙ files_kept old mid a.reads a.handed;
}
ends_then First Second old mid new x (Err (TooLong file)) a b = record {
  name = b.name;
  limit = b.limit;
  within = within_then First Second old mid new x file b.name b.limit (b.limit + 1) a b.within;
  longer = longer_kept old mid a.reads b.name b.limit a.handed b.longer;
}
ends_then First Second old mid new x (Err NoMemory) a b = lacked_then First Second old mid new x a b
ends_then First Second old mid new x (Err Done) a b = absurd b
ends_then First Second old mid new x (Err (Usage number)) a b = absurd b
ends_then First Second old mid new x (Err (WriteFault file)) a b = absurd b
ends_then First Second old mid new x (Err refusal) a b = comes_then First Second old mid new x (refuses refusal) a b

within_first : {A B E : Type 0} (First : List Read → Next A E → Type 0) (Second : A → List Read → Next B E → Type 0) (old new : FolderSeen) (file : FileId) (name : List ℕ) (limit part : ℕ)
    → Within First old new file name limit part → Within (Then First Second) old new file name limit part
within_first First Second old new file name limit part a = record { reads = a.reads; seen = a.seen; told = a.told; reached = inl a.reached }

lacked_first : {A B E : Type 0} (First : List Read → Next A E → Type 0) (Second : A → List Read → Next B E → Type 0) (old new : FolderSeen) → Lacked First old new → Lacked (Then First Second) old new
lacked_first First Second old new (inl a) = inl (record { reads = a.reads; handed = a.handed; reached = inl a.reached })
lacked_first First Second old new (inr a) = inr (record {
  file = a.file;
  name = a.name;
  limit = a.limit;
  part = a.part;
  within = within_first First Second old new a.file a.name a.limit a.part a.within;
  fits = a.fits;
})

-- where the first step gave none, both end as it does
pub ends_first : {A B : Type 0} (First : List Read → Next A Status → Type 0) (Second : A → List Read → Next B Status → Type 0) (old new : FolderSeen) (status : Status)
    → Ended First old new (Err status) → Ended (Then First Second) old new (Err status)
ends_first First Second old new (ReadFault file) a = record {
  mid = a.mid;
  name = a.name;
  limit = a.limit;
  part = a.part;
  within = within_first First Second old a.mid file a.name a.limit a.part a.within;
  fits = a.fits;
  failed = a.failed;
  files = a.files;
}
ends_first First Second old new (TooLong file) a = record {
  name = a.name;
  limit = a.limit;
  within = within_first First Second old new file a.name a.limit (a.limit + 1) a.within;
  longer = a.longer;
}
ends_first First Second old new NoMemory a = lacked_first First Second old new a
ends_first First Second old new Done a = absurd a
ends_first First Second old new (Usage number) a = absurd a
ends_first First Second old new (WriteFault file) a = absurd a
ends_first First Second old new refusal a = record { reads = a.reads; handed = a.handed; reached = inl a.reached }

-- a step that reads nothing
pub ends_here : {A : Type 0} (IsAnswer : Result A Status → Type 0) (folder : FolderSeen) (result : Result A Status) → Given IsAnswer result → Ended (Answers IsAnswer) folder folder result
ends_here IsAnswer folder (Ok x) given = record { reads = []; handed = handed_none folder; reached = (refl, given) }
ends_here IsAnswer folder (Err (ReadFault file)) given = absurd given
ends_here IsAnswer folder (Err (TooLong file)) given = absurd given
ends_here IsAnswer folder (Err NoMemory) given = inl (record { reads = []; handed = handed_none folder; reached = refl })
ends_here IsAnswer folder (Err Done) given = absurd given
ends_here IsAnswer folder (Err (Usage number)) given = absurd given
ends_here IsAnswer folder (Err (WriteFault file)) given = absurd given
ends_here IsAnswer folder (Err refusal) given = record { reads = []; handed = handed_none folder; reached = (refl, given) }

-- ---- the reading of a file

one_read : (octets : List ℕ) (file : FileId) (name : List ℕ) → length octets ≡ octets_of (record { file = file; name = name; octets = octets } ∷ [])
one_read octets file name = omega arith

-- a file that was read whole
pub ends_read : (old new : FolderSeen) (file : FileId) (name octets : List ℕ) (limit : ℕ) → new ≡ handing old (length octets) → IsContent old.files name octets → length octets ≤ limit → Ended (Reads file name limit) old new (Ok octets)
ends_read old new file name octets limit seen whole short = record {
  reads = record { file = file; name = name; octets = octets } ∷ [];
  handed = record {
    seen = seen ∙ ap (λ (n : ℕ). handing old n) (one_read octets file name);
    told = told_one old.files file name octets whole;
  };
  reached = (refl, short);
}

-- a file of which a part was read
part_read : {E : Type 0} (old new : FolderSeen) (file : FileId) (name : List ℕ) (limit part : ℕ) → new ≡ handing old part → Within {E = E} (Reads file name limit) old new file name limit part
part_read old new file name limit part seen = record {
  reads = [];
  seen = seen ∙ ap (λ (n : ℕ). handing old n) (omega arith);
  told = told_none old.files;
  reached = (refl, refl, refl, refl);
}

longer_told : (files : Option Files) (name octets : List ℕ) (limit : ℕ) → HoldsFrom files name octets → limit < length octets → IsToldLonger files name limit
longer_told None name octets limit holds more = tt
longer_told (Some files) name octets limit holds more = omega (arith, ap length holds, length-take (length octets) (content_of files name))

-- a file that is too long
pub ends_too_long : (old new : FolderSeen) (file : FileId) (name octets : List ℕ) (limit : ℕ) → new ≡ handing old (length octets) → HoldsFrom old.files name octets → limit < length octets → length octets ≤ limit + 1 → Ended {A = List ℕ} (Reads file name limit) old new (Err (TooLong file))
ends_too_long old new file name octets limit seen holds more most =
    let all : length octets ≡ limit + 1 = omega arith in
    record {
      name = name;
      limit = limit;
      within = part_read old new file name limit (limit + 1) (seen ∙ ap (λ (n : ℕ). handing old n) all);
      longer = longer_told old.files name octets limit holds more;
    }

-- a piece that wasn't read, behind octets that were
pub ends_unread : (old mid new : FolderSeen) (file : FileId) (name octets : List ℕ) (limit room : ℕ) (status : Status) → mid ≡ handing old (length octets) → length octets ≤ limit → length octets + room ≤ limit + 1 → PieceFails mid new file room status → Ended {A = List ℕ} (Reads file name limit) old new (Err status)
ends_unread old mid new file name octets limit room (ReadFault named) seen fits most fails =
    rw fails.0 (record {
      mid = mid;
      name = name;
      limit = limit;
      part = length octets;
      within = part_read old mid file name limit (length octets) seen;
      fits = fits;
      failed = fails.1;
      files = fails.2 ∙ ap (λ (f : FolderSeen). f.files) seen;
    })
ends_unread old mid new file name octets limit room NoMemory seen fits most fails = inr (record {
  file = file;
  name = name;
  limit = limit;
  part = length octets + fails.0;
  within = part_read old new file name limit (length octets + fails.0) (fails.2 ∙ ap (λ (f : FolderSeen). handing f fails.0) seen ∙ handing_twice old (length octets) fails.0);
  fits = omega (arith, fails.1);
})
ends_unread old mid new file name octets limit room other seen fits most fails = absurd fails

-- memory ran out before a file was read
pub ends_lacking : (folder : FolderSeen) (file : FileId) (name : List ℕ) (limit : ℕ) → Ended {A = List ℕ} (Reads file name limit) folder folder (Err NoMemory)
ends_lacking folder file name limit = inl (record { reads = []; handed = handed_none folder; reached = refl })
