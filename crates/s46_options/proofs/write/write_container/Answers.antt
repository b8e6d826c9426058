use Rattle.std.proofs.Common.{◌≡◌, ◌∙◌, ◌++◌, List, ℕ, true, ap}
use Rattle.s46_options.specs.Options.{spelled}
use Rattle.s46_options.specs.Items.{inside_octets, container_octets}
use Rattle.s46_options.specs.Accepted.{is_accepted}
use Rattle.s46_options.proofs.Written.{written_sound, written_read}
use Rattle.s46_options.proofs.write.write_container.Goals as goal

pub returns-clause-sound : goal.returns-clause-sound
returns-clause-sound c =
    let items = c.as_slice.result.now in
    let inside : c.as_slice-2.result.now ≡ inside_octets items = c.as_slice-2.ensures ∙ c.in_ok-inside.ensures.octets in
    let out : c.push_option.new.out ≡ container_octets items = c.in_ok-push_option.ensures ∙ ap (λ (xs : List ℕ). xs ++ spelled (record { code = 95; octets = c.as_slice-2.result.now })) c.new-out.ensures ∙ ap (λ (xs : List ℕ). spelled (record { code = 95; octets = xs })) inside in
    let accepted : is_accepted items ≡ true = ap is_accepted c.as_slice.ensures.items ∙ c.as_slice.ensures.accepted in
    rw out (written_sound items accepted c.in_ok-inside.ensures.fields)

pub returns-clause-read : goal.returns-clause-read
returns-clause-read c =
    let items = c.as_slice.result.now in
    let inside : c.as_slice-2.result.now ≡ inside_octets items = c.as_slice-2.ensures ∙ c.in_ok-inside.ensures.octets in
    let out : c.push_option.new.out ≡ container_octets items = c.in_ok-push_option.ensures ∙ ap (λ (xs : List ℕ). xs ++ spelled (record { code = 95; octets = c.as_slice-2.result.now })) c.new-out.ensures ∙ ap (λ (xs : List ℕ). spelled (record { code = 95; octets = xs })) inside in
    let accepted : is_accepted items ≡ true = ap is_accepted c.as_slice.ensures.items ∙ c.as_slice.ensures.accepted in
    rw (out, ← c.as_slice.ensures.items) (written_read items accepted c.in_ok-inside.ensures.fields)
