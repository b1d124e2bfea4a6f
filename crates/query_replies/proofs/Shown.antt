-- A document is shown with the metadata that it has and what the server knows of it.
use Rattle.std.proofs.Common.{◌≡◌, ◌∙◌, ℕ, List, Option, codes, refl, ap}
use Rattle.spec_data.specs.Data.{Data, null, flag, num, text, array, object, entries_of}
use Rattle.spec_data.specs.Members.{member_of}
use Rattle.spec_data.specs.Rising.{Pairs}
use Rattle.spec_data.specs.Rows.{Row}
use Rattle.spec_server.specs.Answers.{shown, shown_metadata}
use Rattle.raven_json.specs.Shown.{shown_with}

shown-is : (base : List ℕ) (r : Row) (d : Data) → shown_with d (object (entries_of (shown_metadata base r (member_of (codes "@metadata") d)))) ≡ shown base r d
shown-is base r null = refl
shown-is base r (flag b) = refl
shown-is base r (num z) = refl
shown-is base r (text s) = refl
shown-is base r (array ds) = refl
shown-is base r (object ms) = refl

pub shown-kept : (base : List ℕ) (r : Row) (d : Data) (found : Option Data) (ms : Pairs) → ms ≡ shown_metadata base r found → found ≡ member_of (codes "@metadata") d
    → shown_with d (object (entries_of ms)) ≡ shown base r d
shown-kept base r d found ms is got = ap (λ (x : Pairs). shown_with d (object (entries_of x))) (is ∙ ap (shown_metadata base r) got) ∙ shown-is base r d

pub ruleset documents = (shown-kept)
