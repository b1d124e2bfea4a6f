-- The text of a document is read as the document, and that of its metadata as its metadata.
use Rattle.std.specs.Str.{bytes_eq}
use Rattle.std.proofs.Common.{Bool, true, ◌≡◌, ◌≤◌, ◌∙◌, ℕ, List, Ok, Some, refl, sym, ap, subst, arith, codes}
use Rattle.std.proofs.lemmas.Slice.Eq.{bytes_eq-Decides}
use Rattle.raven_value.specs.DocumentView.{IsWritten, Splits, data_in, data_in-read}
use Rattle.spec_data.specs.Data.{Data, null, flag, num, text, array, object, Entries, no_entries, entry, depth}
use Rattle.spec_data.specs.Json.{reading}
use Rattle.spec_data.specs.Members.{member, member_of}
use Rattle.spec_data.specs.Sound.{IsSound}
use Rattle.spec_data.specs.Written.{text_of}
use Rattle.raven_json.proofs.RoundTrip.{reading-text_of, read_back}

pub data_back : (bytes : List ℕ) (d : Data) → bytes ≡ text_of d → IsSound d → depth d ≤ 100 → data_in bytes ≡ d
data_back bytes d e h few = data_in-read bytes d (read_back bytes d e h few)

pub is_written : (bytes : List ℕ) (d : Data) → bytes ≡ text_of d → IsSound d → depth d ≤ 100 → IsWritten bytes
is_written bytes d e h few =
    let back = data_back bytes d e h few in
    record {
      written = ap text_of back ∙ sym e;
      sound = subst IsSound (sym back) h;
      shallow = subst (λ (x : Data). depth x ≤ 100) (sym back) few;
    }

-- what is written is read as the data
pub read_written : (bytes : List ℕ) → IsWritten bytes → reading bytes ≡ Ok (data_in bytes)
read_written bytes h = read_back bytes (data_in bytes) (sym h.written) h.sound h.shallow

-- ---- a text that is compared with what is written

same_text : (is : Bool) (d : Data) (bytes : List ℕ) → is ≡ bytes_eq (text_of d) bytes → is ≡ true → bytes ≡ text_of d
same_text is d bytes e met = sym ((bytes_eq-Decides (text_of d) bytes).0 (sym e ∙ met))

pub when_written : (is : Bool) (d : Data) (bytes : List ℕ) → is ≡ bytes_eq (text_of d) bytes → IsSound d → depth d ≤ 100 → is ≡ true → IsWritten bytes
when_written is d bytes e h few met = is_written bytes d (same_text is d bytes e met) h few

pub when_value : (is : Bool) (d : Data) (bytes : List ℕ) → is ≡ bytes_eq (text_of d) bytes → IsSound d → depth d ≤ 100 → is ≡ true → data_in bytes ≡ d
when_value is d bytes e h few met = data_back bytes d (same_text is d bytes e met) h few

pub ruleset texts = (when_written, when_value)

-- ---- the metadata that stands first

found_first : (k : List ℕ) (d : Data) (rest : Entries) → k ≡ codes "@metadata" → member (codes "@metadata") (entry k d rest) ≡ Some d
found_first k d rest e = let same = (bytes_eq-Decides (codes "@metadata") k).1 (sym e) in rw same refl

pub first_is_written : (d : Data) (head behind : List ℕ) → Splits d head behind → IsSound d → depth d ≤ 100 → IsWritten head
first_is_written null head behind s h few = absurd s
first_is_written (flag b) head behind s h few = absurd s
first_is_written (num z) head behind s h few = absurd s
first_is_written (text t) head behind s h few = absurd s
first_is_written (array ds) head behind s h few = absurd s
first_is_written (object no_entries) head behind s h few = absurd s
first_is_written (object (entry k null rest)) head behind s h few = absurd s
first_is_written (object (entry k (flag b) rest)) head behind s h few = absurd s
first_is_written (object (entry k (num z) rest)) head behind s h few = absurd s
first_is_written (object (entry k (text t) rest)) head behind s h few = absurd s
first_is_written (object (entry k (array ds) rest)) head behind s h few = absurd s
first_is_written (object (entry k (object ms) rest)) head behind s h few = is_written head (object ms) (sym s.1.0) h.1.1.0 (omega (arith, few))

pub first_is_member : (d : Data) (head behind : List ℕ) → Splits d head behind → IsSound d → depth d ≤ 100 → member_of (codes "@metadata") d ≡ Some (data_in head)
first_is_member null head behind s h few = absurd s
first_is_member (flag b) head behind s h few = absurd s
first_is_member (num z) head behind s h few = absurd s
first_is_member (text t) head behind s h few = absurd s
first_is_member (array ds) head behind s h few = absurd s
first_is_member (object no_entries) head behind s h few = absurd s
first_is_member (object (entry k null rest)) head behind s h few = absurd s
first_is_member (object (entry k (flag b) rest)) head behind s h few = absurd s
first_is_member (object (entry k (num z) rest)) head behind s h few = absurd s
first_is_member (object (entry k (text t) rest)) head behind s h few = absurd s
first_is_member (object (entry k (array ds) rest)) head behind s h few = absurd s
first_is_member (object (entry k (object ms) rest)) head behind s h few =
    found_first k (object ms) rest s.0 ∙ ap Some (sym (data_back head (object ms) (sym s.1.0) h.1.1.0 (omega (arith, few))))

pub ruleset documents = (data_back, is_written, read_written, reading-text_of, first_is_written, first_is_member)
