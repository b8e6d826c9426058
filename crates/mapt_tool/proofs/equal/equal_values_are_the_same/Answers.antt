use Rattle.std.proofs.Common.{◌≡◌, ℕ, true, nat_eq, refl, ap, subst}
use Rattle.std.proofs.lemmas.Bool.{false≢true, eqb-true}
use Rattle.octets.proofs.Same.{both_true}
use Rattle.map_rules.proofs.Same.{both_pass, number_same}
use Rattle.outside.specs.declared.file_id.FileId.{FileId}
use Rattle.pcap_files.specs.declared.fault.CaptureFault.{CaptureFault}
use Rattle.setup_tables.specs.declared.fault.SetupCause.{SetupCause}
use Rattle.mapt_tool.specs.declared.status.Status.TheVariants.{Done, Usage, ReadFault, WriteFault, SetupRefused, CaptureRefused, TooLong, NoMemory, NotBuilt}
use Rattle.mapt_tool.proofs.equal.equal_values_are_the_same.Goals as goal

number_told : (i j : ℕ) → (nat_eq i j ≡ true → i ≡ j) × (i ≡ j → nat_eq i j ≡ true)
number_told i j = (λ e. eqb-true i j e, λ same. subst (λ (n : ℕ). nat_eq i n ≡ true) same (number_same i))

-- what a status is made of
number_of_usage : (i j : ℕ) → Usage i ≡ Usage j → i ≡ j
number_of_usage i j e = cc

read : (f g : FileId) → ReadFault f ≡ ReadFault g → f ≡ g
read f g e = cc

written : (f g : FileId) → WriteFault f ≡ WriteFault g → f ≡ g
written f g e = cc

refused : (a b : SetupCause) (i j : ℕ) → SetupRefused a i ≡ SetupRefused b j → (a ≡ b) × (i ≡ j)
refused a b i j e = (cc, cc)

captured : (f g : FileId) (a b : CaptureFault) → CaptureRefused f a ≡ CaptureRefused g b → (f ≡ g) × (a ≡ b)
captured f g a b e = (cc, cc)

long : (f g : FileId) → TooLong f ≡ TooLong g → f ≡ g
long f g e = cc

built : (f g : FileId) → NotBuilt f ≡ NotBuilt g → f ≡ g
built f g e = cc

pub returns : goal.returns
returns c Done Done = (λ e. refl, λ same. refl)
returns c (Usage i) (Usage j) = (λ e. ap (λ (n : ℕ). Usage n) ((number_told i j).0 e), λ same. (number_told i j).1 (number_of_usage i j same))
returns c (ReadFault f) (ReadFault g) =
    let told = c.equal_values_are_the_same-2.ensures.file f g in
    (λ e. ap (λ (x : FileId). ReadFault x) (told.0 e), λ same. told.1 (read f g same))
returns c (WriteFault f) (WriteFault g) =
    let told = c.equal_values_are_the_same-2.ensures.file f g in
    (λ e. ap (λ (x : FileId). WriteFault x) (told.0 e), λ same. told.1 (written f g same))
returns c (SetupRefused a i) (SetupRefused b j) =
    let told = c.equal_values_are_the_same.ensures.cause a b in (
      λ e. let both = both_true _ _ e in λ k. SetupRefused (told.0 both.0 k) ((number_told i j).0 both.1 k),
      λ same. let parts = refused a b i j same in both_pass _ _ (told.1 parts.0) ((number_told i j).1 parts.1),
    )
returns c (CaptureRefused f a) (CaptureRefused g b) =
    let file = c.equal_values_are_the_same-2.ensures.file f g in
    let fault = c.equal_faults_are_the_same.ensures a b in (
      λ e. let both = both_true _ _ e in λ k. CaptureRefused (file.0 both.0 k) (fault.0 both.1 k),
      λ same. let parts = captured f g a b same in both_pass _ _ (file.1 parts.0) (fault.1 parts.1),
    )
returns c (TooLong f) (TooLong g) =
    let told = c.equal_values_are_the_same-2.ensures.file f g in
    (λ e. ap (λ (x : FileId). TooLong x) (told.0 e), λ same. told.1 (long f g same))
returns c NoMemory NoMemory = (λ e. refl, λ same. refl)
returns c (NotBuilt f) (NotBuilt g) =
    let told = c.equal_values_are_the_same-2.ensures.file f g in
    (λ e. ap (λ (x : FileId). NotBuilt x) (told.0 e), λ same. told.1 (built f g same))
returns c one other = (λ e. absurd (false≢true e), λ same. cc)
