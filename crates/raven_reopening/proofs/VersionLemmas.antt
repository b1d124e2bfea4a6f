-- A definition is read of either version of its body.
use Rattle.std.proofs.Common.{◌≡◌, pos, ◌≤◌, true, false, cond, codes, Some, None, refl, sym, ap, ◌∙◌, subst, arith}
use Rattle.json.proofs.Printed.Utf8.{IsUtf8-are_ascii}
use Rattle.spec_data.specs.Data.{Data, null, flag, num, text, array, object, depth, entries_depth, pairs_of}
use Rattle.spec_data.specs.Rising.{put}
use Rattle.spec_data.specs.Rows.{Body}
use Rattle.spec_data.specs.Sound.{IsSound}
use Rattle.spec_data.specs.Written.{text_of}
use Rattle.spec_data.proofs.MemberLemmas.{IsRising-put}
use Rattle.spec_store.specs.Commit.{stored_body}
use Rattle.index_tree.specs.Definitions.{Definition}
use Rattle.spec_index.specs.Reduces.{has_quotient}
use Rattle.spec_index.specs.World.{first_body, row_body}
use Rattle.spec_server.specs.Opening.{BodyForm, NoForm, AutoForm, StaticForm, body_form, dividing}
use Rattle.spec_server.specs.Sound.{IsBodyOf, first, second}
use Rattle.raven_laws.specs.Versions.{with_version}
use Rattle.raven_laws.proofs.VersionLemmas.{with_version-first}
use Rattle.index_lang.specs.Openings.{IsInBody, IsOfForm, unless_divided, without_refusal}
use Rattle.raven_json.proofs.PairLemmas.{object-sound, put-depth, put-sound}
use Rattle.raven_json.proofs.SoundLemmas.{reading-fine}
use Rattle.raven_reading.proofs.TextLemmas.{undivided-told}
use Rattle.raven_reopening.proofs.BodyLemmas.{entries-pairs, pairs-sound, versions-alike}
use Rattle.raven_reopening.proofs.ReadLemmas.{IsBodyBack}
use Rattle.raven_reopening.proofs.RightLemmas.{IsReadOf}

-- WHAT IS READ

-- what the first version says, the second one says
divided-said : (form : BodyForm) (d : Definition) → IsOfForm form (Some d) → IsOfForm (dividing form) (Some d)
divided-said NoForm d h = h
divided-said (AutoForm e) d h = h
divided-said (StaticForm true texts) d h = h
divided-said (StaticForm false texts) d h = record { answer = h.answer; says = h.says; told = (undivided-told d (without_refusal h.answer) h.told).0 }

-- what the second version says, the first one says if there is no quotient
undivided-said : (form : BodyForm) (d : Definition) → has_quotient d ≡ false → IsOfForm (dividing form) (Some d) → IsOfForm form (Some d)
undivided-said NoForm d none h = h
undivided-said (AutoForm e) d none h = h
undivided-said (StaticForm true texts) d none h = h
undivided-said (StaticForm false texts) d none h = record {
  answer = h.answer;
  says = h.says;
  told = ap (λ b. cond b None (Some d)) (sym none) ∙ ap (unless_divided false) h.told;
}

pub read-written : (d : Definition) (b : Body) → IsBodyOf d b → IsInBody b (Some d) → IsReadOf d
read-written d b (second is) h = subst (λ (x : Body). IsInBody x (Some d)) is h
read-written d b (first is none) h =
    subst (λ form. IsOfForm form (Some d)) (sym (versions-alike d)) (divided-said (body_form (stored_body (first_body d))) d (subst (λ (x : Body). IsInBody x (Some d)) is h))

pub read-stored : (d : Definition) (b : Body) → IsBodyOf d b → IsReadOf d → IsInBody b (Some d)
read-stored d b (second is) h = subst (λ (x : Body). IsInBody x (Some d)) (sym is) h
read-stored d b (first is none) h =
    subst (λ (x : Body). IsInBody x (Some d)) (sym is)
    (undivided-said (body_form (stored_body (first_body d))) d none (subst (λ form. IsOfForm form (Some d)) (versions-alike d) h))

-- WHAT IS STORED

-- the value is sound, and at most a hundred deep
abbrev pub IsFine : Data → Type 0
IsFine d = IsSound d × (depth d ≤ 100)

-- it stays so with the member
pub fine-version : (d : Data) → IsFine d → IsFine (with_version d)
fine-version null f = f
fine-version (flag b) f = f
fine-version (num n) f = f
fine-version (text s) f = f
fine-version (array ds) f = f
fine-version (object ms) f =
    let name = codes "Version" in
    let same = ap entries_depth (entries-pairs ms) in
    let flat = put-depth name (num (pos 2)) (pairs_of ms) 99 (omega arith) (let deep = f.1 in omega arith) in (
      object-sound (put name (num (pos 2)) (pairs_of ms)) (IsRising-put name (num (pos 2)) (pairs_of ms) f.0.0) (put-sound name (num (pos 2)) (pairs_of ms) (IsUtf8-are_ascii name refl) (omega arith) (pairs-sound ms f.0.1)),
      omega arith,
    )

-- the body as it is written is fine, if either version of it is read back
pub fine-written : (d : Definition) (b : Body) → IsBodyOf d b → IsBodyBack b → IsFine (stored_body (row_body d))
fine-written d b (second is) h = let own = subst IsBodyBack is h in reading-fine (text_of (stored_body (row_body d))) (stored_body (row_body d)) own.read
fine-written d b (first is none) h =
    let own = subst IsBodyBack is h in
    subst IsFine (with_version-first d) (fine-version (stored_body (first_body d)) (reading-fine (text_of (stored_body (first_body d))) (stored_body (first_body d)) own.read))
