-- The definitions of indexes are right: each is read again from the body of its row, and may have its name.
use Rattle.std.proofs.Common.{◌≡◌, ℕ, ◌≤◌, List, Bool, true, false, if◌then◌else◌, length, filter, map, Option, Some, IfSome, Ok, IsUtf8, refl, sym, ap, ◌==◌, ◌∙◌, subst, inl, inr}
use Rattle.spec_data.specs.Faults.{max_name, replacement_of}
use Rattle.spec_data.specs.Members.{Path}
use Rattle.spec_data.specs.Rows.{doc}
use Rattle.spec_store.specs.Commit.{stored_body}
use Rattle.index_tree.specs.Definitions.{Definition, Static, Auto, AutoReduce, Texts}
use Rattle.index_tree.specs.declared.map_query.MapQuery.{MapQuery}
use Rattle.index_tree.specs.declared.reduce_query.ReduceQuery.{ReduceQuery}
use Rattle.spec_server.specs.Opening.{is_auto_name, is_static_name, may_be_named}
use Rattle.spec_server.specs.Sound.{Has}
use Rattle.spec_store.specs.Store.{Store}
use Rattle.spec_index.specs.Optimiser.{Shape, definition_of}
use Rattle.spec_index.specs.World.{Slot, World, added_to, is_automatic, is_reserved_name, named_anew, renamed, row_body}
use Rattle.raven_laws.proofs.Acts.{batch_if}
use Rattle.raven_laws.proofs.Moving.{Keeps, kept-by-batch}
use Rattle.raven_laws.proofs.SlotLemmas.{Has-append, Has-filter, Has-map}
use Rattle.index_lang.specs.Openings.{IsInBody, IsOfForm}
use Rattle.index_lang.specs.Says.{Says}
use Rattle.raven_reading.specs.Requests.{IsRequestBody, IsByText}
use Rattle.raven_reopening.specs.Form.{AreKept, IsKept}
use Rattle.raven_reopening.proofs.BodyLemmas.{auto-back, auto-body, paths-true, reduce-back, reduce-body, static-back, static-body}
use Rattle.raven_reopening.proofs.FitLemmas.{given-static, replacement-named, static-named, static_name-fit}
use Rattle.raven_reopening.proofs.ShapeLemmas.{IsKeptShape, made-automatic, made-kept}

-- what is read of the body that the server stores for a definition is that definition
abbrev pub IsReadOf : Definition → Type 0
IsReadOf d = IsInBody (doc (stored_body (row_body d))) (Some d)

pub record IsRight (s : Slot) : Type 0 where
  pub body : is_automatic s.version.definition ≡ false → IsRequestBody (row_body s.version.definition)
  pub read : IsReadOf s.version.definition
  pub named : may_be_named s.version.definition s.name ≡ true
  pub kept : IsKept s.version.definition

abbrev pub AllRight : List Slot → Type 0
AllRight slots = (s : Slot) → Has slots s → IsRight s

-- A NEW ONE

-- a definition that can be stored under the name
pub record IsNew (name : List ℕ) (d : Definition) : Type 0 where
  pub body : IsRequestBody (row_body d)
  pub read : IsReadOf d
  pub named : may_be_named d name ≡ true
  pub kept : IsKept d

-- what is read of the body of a definition whose paths can be kept
auto-new : (name c : List ℕ) (fs : List Path) → IsUtf8 c → AreKept fs → is_auto_name name ≡ true → IsNew name (Auto c fs)
auto-new name c fs u k named =
    let d = Auto c fs in
    record { body = auto-body c fs u k.paths; read = subst (λ form. IsOfForm form (Some d)) (sym (auto-back c fs (paths-true fs k.paths) k.rising)) refl; named = named; kept = (u, k) }

reduce-new : (name c : List ℕ) (gs ss : List Path) → IsUtf8 c → AreKept gs → AreKept ss → is_auto_name name ≡ true → IsNew name (AutoReduce c gs ss)
reduce-new name c gs ss u k l named =
    let d = AutoReduce c gs ss in
    record {
      body = reduce-body c gs ss u k.paths l.paths;
      read = subst (λ form. IsOfForm form (Some d)) (sym (reduce-back c gs ss (paths-true gs k.paths) k.rising (paths-true ss l.paths) l.rising)) refl;
      named = named;
      kept = (u, (k, l));
    }

-- an automatic one
kept-new : (name : List ℕ) (d : Definition) → is_automatic d ≡ true → IsKept d → is_auto_name name ≡ true → IsNew name d
kept-new name (Static query reduce words reduce_words) is k named = absurd cc
kept-new name (Auto c fs) is k named = auto-new name c fs k.0 k.1 named
kept-new name (AutoReduce c gs ss) is k named = reduce-new name c gs ss k.0 k.1.0 k.1.1 named

pub made-new : (name : List ℕ) (shape : Shape) → IsKeptShape shape → is_auto_name name ≡ true → IsNew name (definition_of shape)
made-new name shape k named = kept-new name (definition_of shape) (made-automatic shape) (made-kept shape k) named

texts-new : (name : List ℕ) (query : MapQuery) (reduce : Option ReduceQuery) (texts : Texts) → IsUtf8 texts.0 → IfSome texts.1 IsUtf8
    → Says texts (Ok (Static query reduce texts.0 texts.1)) → may_be_named (Static query reduce texts.0 texts.1) name ≡ true → IsNew name (Static query reduce texts.0 texts.1)
texts-new name query reduce texts u v says named =
    let d = Static query reduce texts.0 texts.1 in
    record {
      body = static-body query reduce texts.0 texts.1 u v;
      read = subst (λ form. IsOfForm form (Some d)) (sym (static-back query reduce texts.0 texts.1)) (record { answer = Ok d; says = says; told = refl });
      named = named;
      kept = tt;
    }

pub static-new : (name : List ℕ) (d : Definition) → IsByText name d → is_reserved_name name ≡ false → length name ≤ 200 → IsNew name d
static-new name d x free few =
    let own = x.by_texts in
    subst (IsNew name) (sym own.by_texts)
    (texts-new name own.query own.reduce x.texts x.utf8 x.reduce_utf8 (subst (λ e. Says x.texts (Ok e)) own.by_texts x.says)
    (static-named (Static own.query own.reduce x.texts.0 x.texts.1) name refl free (static_name-fit max_name name x.fit free few)))

-- the same definition under the name of a replacement
pub replacement-new : (name other : List ℕ) (d : Definition) → IsNew name d → is_automatic d ≡ false → is_static_name other ≡ true → IsNew (replacement_of other) d
replacement-new name other d new is h = record { body = new.body; read = new.read; named = replacement-named d other is h; kept = new.kept }

pub added-right : (W : World) (slots : List Slot) (name : List ℕ) (d : Definition) → IsNew name d → AllRight slots → AllRight (added_to W slots name d).slots
added-right W slots name d new all s h = elim (Has-append slots _ s h) [
  | inl old ↦ all s old
  | inr (inl e) ↦ subst IsRight e (record { body = λ is. new.body; read = new.read; named = new.named; kept = new.kept })
  | inr (inr no_more) ↦ absurd no_more
]

-- THOSE THAT THERE WERE

pub filter-right : (p : Slot → Bool) (slots : List Slot) → AllRight slots → AllRight (filter p slots)
filter-right p slots all s h = all s (Has-filter p slots s h)

pub kept-right : (x y : Slot) → Keeps x y → IsRight x → IsRight y
kept-right x y k r = record {
  body = λ is. subst (λ d. IsRequestBody (row_body d)) (sym k.definition) (r.body (ap is_automatic (sym k.definition) ∙ is));
  read = subst IsReadOf (sym k.definition) r.read;
  named = (λ i. may_be_named (k.definition i) (k.name i)) ∙ r.named;
  kept = subst IsKept (sym k.definition) r.kept;
}

map-right : (f : Slot → Slot) (slots : List Slot) → ((x : Slot) → Keeps x (f x)) → AllRight slots → AllRight (map f slots)
map-right f slots keeps all s h = let x = Has-map f slots s h in subst IsRight x.2 (kept-right x.0 (f x.0) (keeps x.0) (all x.0 x.1))

pub advanced-right : (S : Store) (max : ℕ) (chosen : Slot → Bool) (slots : List Slot) → AllRight slots → AllRight (map (batch_if S max chosen) slots)
advanced-right S max chosen slots = map-right (batch_if S max chosen) slots (kept-by-batch S max chosen)

-- the slot that takes the name of another, which a client gave
pub taker-right : (s r : Slot) (row : ℕ) → IsRight s → IsRight r → is_reserved_name s.name ≡ false → is_automatic r.version.definition ≡ false → IsRight (named_anew s.name row r)
taker-right s r row its own given is = record { body = own.body; read = own.read; named = static-named r.version.definition s.name is given (given-static s.version.definition s.name its.named given); kept = own.kept }

pub renamed-right : (slots : List Slot) (s r : Slot) (row : ℕ) → AllRight slots → IsRight s → is_reserved_name s.name ≡ false → ((x : Slot) → Has slots x → is_automatic x.version.definition ≡ true → (x.number == r.number) ≡ false)
    → AllRight (map (renamed r.number s.name row) slots)
renamed-right slots s r row all its given auto y h =
    let x = Has-map (renamed r.number s.name row) slots y h in
    subst IsRight x.2 (elim (x.0.number == r.number) as (λ b. (x.0.number == r.number) ≡ b → IsRight (if b then named_anew s.name row x.0 else x.0)) [
      | true ↦ λ e. taker-right s x.0 row its (all x.0 x.1) given (elim (is_automatic x.0.version.definition) as (λ b. is_automatic x.0.version.definition ≡ b → b ≡ false) [
        | true ↦ λ f. absurd (let g = auto x.0 x.1 f in cc)
        | false ↦ λ f. refl
      ] refl)
      | false ↦ λ e. all x.0 x.1
    ] refl)
