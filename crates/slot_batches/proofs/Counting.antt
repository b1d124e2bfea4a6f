-- What batches count, of one index after another.
use Rattle.std.proofs.Common.{◌≡◌, ℕ, ◌≤◌, ◌<◌, ◌+◌, ◌*◌, List, [], ◌∷◌, ◌++◌, length, take, drop, map, Bool, true, false, cond, get_or, Option, Some, None, refl, sym, ap, ◌∙◌, subst, arith, length-append}
use Rattle.std.specs.Prelude.{IfOk, IfSome, Result, Ok, Err, option_map}
use Rattle.std.specs.Result.{is_ok}
use Rattle.std.specs.List.{All}
use Rattle.std.proofs.lemmas.Grind.{flat_map-append}
use Rattle.std.proofs.lemmas.List.{get_or-append-add, get_or_append_left, map-append, take-append-drop, take_more}
use Rattle.std.proofs.lemmas.List.Elements.{All-head, filter-append}
use Rattle.std.proofs.lemmas.List.Sums.{sum_by-append}
use Rattle.raven_base.specs.Counts.{Counts}
use Rattle.spec_store.specs.Stale.{batch_rows, stale}
use Rattle.spec_store.specs.Store.{IsStore, Store}
use Rattle.index_tree.specs.Mapper.{mapper_of}
use Rattle.spec_index.specs.Index.{Agrees}
use Rattle.spec_index.specs.Mapping.{touched}
use Rattle.spec_index.specs.World.{NumbersRise, Slot, Version, batch, is_named, reads}
use Rattle.spec_server.specs.Batches.{after_batch, or_as_before}
use Rattle.spec_server.specs.Sound.{Fits}
use Rattle.index_version.specs.Named.{NamedVersion}
use Rattle.index_version.specs.Reduced.{HasSmallGroups, reduce_of}
use Rattle.index_version.specs.Renewed.{touched_documents}
use Rattle.slot_batches.specs.Batches.{AllFit, CountFew, MergesFew, after_batch_of, chosen, ids_touched_by_all, read_by, touched_by, touched_by_all}

-- WHAT IS SAID OF EACH SLOT

abbrev NoReduce : Slot → Type 0
NoReduce s = reduce_of s.version.definition ≡ None

abbrev FitsIn : Store → Slot → Type 0
FitsIn S s = Fits S s.version

abbrev AreSmall : ℕ → Store → ℕ → Slot → Type 0
AreSmall h S max s = HasSmallGroups h s.version × HasSmallGroups h (after_batch S max s).version

-- A LIST AND ITS PARTS

all_left : {X : Type 0} (P : X → Type 0) (xs ys : List X) → All P (xs ++ ys) → All P xs
all_left P xs ys h k d lt = let both = length-append xs ys in subst P (get_or_append_left xs ys d k lt) (h k d (omega (arith, both, lt)))

all_right : {X : Type 0} (P : X → Type 0) (xs ys : List X) → All P (xs ++ ys) → All P ys
all_right P xs ys h k d lt = let both = length-append xs ys in subst P (get_or-append-add xs ys k d) (h (length xs + k) d (omega (arith, both, lt)))

pub next_taken : {A : Type 0} (xs : List A) (i : ℕ) (x : A) → i < length xs → x ≡ get_or xs i x → take (i + 1) xs ≡ take i xs ++ x ∷ []
next_taken xs i x within at = take_more xs i x within ∙ ap (λ y. take i xs ++ y ∷ []) (sym at)

chosen-append : (index : Option (List ℕ)) (xs ys : List Slot) → chosen index (xs ++ ys) ≡ chosen index xs ++ chosen index ys
chosen-append None xs ys = refl
chosen-append (Some name) xs ys = filter-append (is_named name) xs ys

pub chosen_more : (index : Option (List ℕ)) (slots : List Slot) (i : ℕ) (s : Slot) → i < length slots → s ≡ get_or slots i s → chosen index (take (i + 1) slots) ≡ chosen index (take i slots) ++ chosen index (s ∷ [])
chosen_more index slots i s within at = ap (chosen index) (next_taken slots i s within at) ∙ chosen-append index (take i slots) (s ∷ [])

pub chosen_parts : (index : Option (List ℕ)) (slots : List Slot) (i : ℕ) → chosen index slots ≡ chosen index (take i slots) ++ chosen index (drop i slots)
chosen_parts index slots i = ap (chosen index) (sym (take-append-drop i slots)) ∙ chosen-append index (take i slots) (drop i slots)

-- one more element of a list is taken to its place in another
pub mapped_more : {A B : Type 0} (f : A → B) (xs : List A) (i : ℕ) (x : A) (done now : List B) (y : B) → i < length xs → x ≡ get_or xs i x → y ≡ f x → now ≡ done ++ y ∷ []
    → done ≡ map f (take i xs) → now ≡ map f (take (i + 1) xs)
mapped_more f xs i x done now y within at made pushed so_far =
    pushed ∙ (λ k. so_far k ++ made k ∷ []) ∙ sym (map-append f (take i xs) (x ∷ [])) ∙ ap (map f) (sym (next_taken xs i x within at))

-- and what is done for it
pub told_more : {B : Type 0} (f : Slot → B) (index : Option (List ℕ)) (slots : List Slot) (i : ℕ) (s : Slot) (done now new : List B) → i < length slots → s ≡ get_or slots i s → new ≡ map f (chosen index (s ∷ [])) → now ≡ done ++ new
    → done ≡ map f (chosen index (take i slots)) → now ≡ map f (chosen index (take (i + 1) slots))
told_more f index slots i s done now new within at made pushed so_far =
    pushed ∙ (λ k. so_far k ++ made k) ∙ sym (map-append f (chosen index (take i slots)) (chosen index (s ∷ []))) ∙ ap (map f) (sym (chosen_more index slots i s within at))

-- NUMBERS STAY

after_number : (index : Option (List ℕ)) (S : Store) (max : ℕ) (s : Slot) → (after_batch_of index S max s).number ≡ s.number
after_number None S max s = refl
after_number (Some name) S max s = elim (is_named name s) as (λ b. (cond b (after_batch S max s) s).number ≡ s.number) [ true ↦ refl | false ↦ refl ]

pub rise_after : (index : Option (List ℕ)) (S : Store) (max low : ℕ) (slots : List Slot) → NumbersRise low slots → NumbersRise low (map (after_batch_of index S max) slots)
rise_after index S max low [] up = tt
rise_after index S max low (s ∷ slots) up =
    (let a = up.0 in let e = after_number index S max s in omega arith, subst (λ n. NumbersRise n (map (after_batch_of index S max) slots)) (sym (after_number index S max s)) (rise_after index S max s.number slots up.1))

-- WHAT IS COUNTED

pub none : (S : Store) (max : ℕ) (slots : List Slot) (old : Counts) → CountFew S max slots false old old
none S max slots old = record {
  maps = omega arith;
  plain = λ e. refl;
  merges = λ e. absurd cc;
  reads = omega arith;
}

-- no batch
pub idle : (S : Store) (max : ℕ) (slots : List Slot) (are_made : Bool) (old : Counts) → slots ≡ [] → CountFew S max slots are_made old old
idle S max slots made old is = subst (λ l. CountFew S max l made old old) (sym is) (record {
  maps = omega arith;
  plain = λ e. refl;
  merges = λ e store fit h one small. omega arith;
  reads = omega arith;
})

pub chosen-nil : (index : Option (List ℕ)) → chosen index [] ≡ []
chosen-nil None = refl
chosen-nil (Some name) = refl

-- if one was not made
pub fewer : (S : Store) (max : ℕ) (slots : List Slot) (are_made : Bool) (old new : Counts) → CountFew S max slots are_made old new → CountFew S max slots false old new
fewer S max slots made old new h = record {
  maps = h.maps;
  plain = h.plain;
  merges = λ e. absurd cc;
  reads = h.reads;
}

-- whether or not something fails after them
pub whether : (S : Store) (max : ℕ) (slots : List Slot) (are_made : Bool) (old new : Counts) → CountFew S max slots true old new → CountFew S max slots are_made old new
whether S max slots true old new h = h
whether S max slots false old new h = fewer S max slots true old new h

touched-append : (S : Store) (max : ℕ) (xs ys : List Slot) → length (touched_by_all S max (xs ++ ys)) ≡ length (touched_by_all S max xs) + length (touched_by_all S max ys)
touched-append S max xs ys = ap length (flat_map-append (touched_by S max) xs ys) ∙ length-append (touched_by_all S max xs) (touched_by_all S max ys)

-- the batches of these, and then of those
pub and_more : (S : Store) (max : ℕ) (xs ys zs : List Slot) (are_made : Bool) (old middle new : Counts) → zs ≡ xs ++ ys → CountFew S max xs true old middle → CountFew S max ys are_made middle new → CountFew S max zs are_made old new
and_more S max xs ys zs made old middle new is before here =
    let documents = touched-append S max xs ys in
    let ids : length (ids_touched_by_all S max (xs ++ ys)) ≡ length (ids_touched_by_all S max xs) + length (ids_touched_by_all S max ys) =
    ap length (flat_map-append _ xs ys) ∙ length-append (ids_touched_by_all S max xs) (ids_touched_by_all S max ys) in
    let rows = sum_by-append (read_by S max) xs ys in
    subst (λ l. CountFew S max l made old new) (sym is) (record {
      maps = let a = before.maps in let b = here.maps in omega (arith, documents, a, b);
      plain = λ no. here.plain (all_right NoReduce xs ys no) ∙ before.plain (all_left NoReduce xs ys no);
      merges = λ e store fit h one small.
          let a = before.merges refl store (all_left (FitsIn S) xs ys fit) h one (all_left (AreSmall h S max) xs ys small) in
          let b = here.merges e store (all_right (FitsIn S) xs ys fit) h one (all_right (AreSmall h S max) xs ys small) in
          subst (λ n. new.merges ≤ old.merges + 128 * n * (h + 1)) (sym ids) (omega (arith, a, b));
      reads = let a = before.reads in let b = here.reads in omega (arith, rows, a, b);
    })

-- the first of several, of which the others were not made
pub only_first : (S : Store) (max : ℕ) (xs ys zs : List Slot) (are_made : Bool) (old new : Counts) → zs ≡ xs ++ ys → CountFew S max xs are_made old new → CountFew S max zs false old new
only_first S max xs ys zs made old new is h =
    let documents = touched-append S max xs ys in
    let rows = sum_by-append (read_by S max) xs ys in
    subst (λ l. CountFew S max l false old new) (sym is) (record {
      maps = let a = h.maps in omega (arith, documents, a);
      plain = λ no. h.plain (all_left NoReduce xs ys no);
      merges = λ e. absurd cc;
      reads = let a = h.reads in omega (arith, rows, a);
    })

-- those up to this slot, and then something failed
pub stopped : (S : Store) (max : ℕ) (index : Option (List ℕ)) (slots : List Slot) (i : ℕ) (s : Slot) (are_made all_made : Bool) (old middle new : Counts) → i < length slots → s ≡ get_or slots i s → all_made ≡ false
    → CountFew S max (chosen index (take i slots)) true old middle → CountFew S max (chosen index (s ∷ [])) are_made middle new → CountFew S max (chosen index slots) all_made old new
stopped S max index slots i s made all old middle new within at not before here =
    let so_far = and_more S max (chosen index (take i slots)) (chosen index (s ∷ [])) (chosen index (take (i + 1) slots)) made old middle new (chosen_more index slots i s within at) before here in
    subst (λ b. CountFew S max (chosen index slots) b old new) (sym not)
    (only_first S max (chosen index (take (i + 1) slots)) (chosen index (drop (i + 1) slots)) (chosen index slots) made old new (chosen_parts index slots (i + 1)) so_far)

pub ruleset counted = (none, fewer)

-- the same over the same slots
pub same_slots : (S : Store) (max : ℕ) (xs ys : List Slot) (are_made : Bool) (old new : Counts) → xs ≡ ys → CountFew S max xs are_made old new → CountFew S max ys are_made old new
same_slots S max xs ys made old new same h = subst (λ l. CountFew S max l made old new) same h

-- ONE BATCH

alone : {X : Type 0} (xs : List X) → length (xs ++ []) ≡ length xs
alone xs = let both = length-append xs [] in omega (arith, both)

abbrev touched_ids : Store → ℕ → Version → List (List ℕ)
touched_ids S max v = touched (mapper_of v.definition) v.table (batch_rows (reads v) v.etag S max)

-- what one batch counts, as a batch of its version says it
pub counted_by_next : (S : Store) (max : ℕ) (s : Slot) (are_made : Bool) (old new : Counts)
    → new.maps ≤ old.maps + length (touched_by S max s)
    → (reduce_of s.version.definition ≡ None → new.merges ≡ old.merges)
    → (are_made ≡ true → IsStore S → AllFit S (s ∷ []) → MergesFew S max (s ∷ []) old new)
    → new.reads ≤ old.reads + (length (batch_rows (reads s.version) s.version.etag S max) + 1) * length (reads s.version)
    → (stale S (reads s.version) s.version.etag None ≡ false → new ≡ old)
    → CountFew S max (s ∷ []) are_made old new
counted_by_next S max s made old new maps plain merges rows idle = record {
  maps = let one = alone (touched_by S max s) in omega (arith, one, maps);
  plain = λ no. plain (All-head NoReduce s [] no);
  merges = merges;
  reads = elim (stale S (reads s.version) s.version.etag None) as (λ b. stale S (reads s.version) s.version.etag None ≡ b → new.reads ≤ old.reads + (0 + cond b ((length (batch_rows (reads s.version) s.version.etag S max) + 1) * length (reads s.version)) 0)) [
    | true ↦ λ e. omega (arith, rows)
    | false ↦ λ e. let same = ap (λ (n : Counts). n.reads) (idle e) in omega (arith, same)
  ] refl;
}

-- what a batch promises of its version, said of the slot
pub merged_by_next : (S : Store) (max : ℕ) (s : Slot) (next : Option NamedVersion) (old new : Counts) → option_map (λ n. n.version) next ≡ batch s.version S max
    → ((h : ℕ) → 1 ≤ h → IsStore S → Agrees (reads s.version) s.version.table S s.version.etag → HasSmallGroups h s.version → IfSome next (λ n. HasSmallGroups h n.version) → new.merges ≤ old.merges + 128 * length (touched_ids S max s.version) * (h + 1))
    → IsStore S → AllFit S (s ∷ []) → MergesFew S max (s ∷ []) old new
merged_by_next S max s next old new is few store fit h one small =
    let both = All-head (AreSmall h S max) s [] small in
    let most = few h one store (All-head (FitsIn S) s [] fit).agrees both.0 (after both.1 next is) in
    subst (λ n. new.merges ≤ old.merges + 128 * n * (h + 1)) (sym (alone (touched_ids S max s.version))) most
  where
    after : HasSmallGroups h (after_batch S max s).version → (next : Option NamedVersion) → option_map (λ n. n.version) next ≡ batch s.version S max → IfSome next (λ n. HasSmallGroups h n.version)
    after here None e = tt
    after here (Some n) e = subst (HasSmallGroups h) (ap (or_as_before s.version) (sym e)) here

-- what a batch of the version of a slot counts
pub next_counts : {E : Type 0} (S : Store) (max : ℕ) (s : Slot) (v : Version) (r : Result (Option NamedVersion) E) (old new : Counts) → v ≡ s.version
    → new.maps ≤ old.maps + length (touched_documents v (batch_rows (reads v) v.etag S max))
    → (reduce_of v.definition ≡ None → new.merges ≡ old.merges)
    → IfOk r (λ next. option_map (λ n. n.version) next ≡ batch v S max)
    → IfOk r (λ next. (h : ℕ) → 1 ≤ h → IsStore S → Agrees (reads v) v.table S v.etag → HasSmallGroups h v → IfSome next (λ n. HasSmallGroups h n.version) → new.merges ≤ old.merges + 128 * length (touched_ids S max v) * (h + 1))
    → new.reads ≤ old.reads + (length (batch_rows (reads v) v.etag S max) + 1) * length (reads v)
    → (stale S (reads v) v.etag None ≡ false → new ≡ old)
    → CountFew S max (s ∷ []) (is_ok r) old new
next_counts S max s v (Ok next) old new own maps plain is few rows idle =
    let t : Slot = record { number = s.number; name = s.name; version = v; row = s.row } in
    let same : t ≡ s = ap (λ w. record { number = s.number; name = s.name; version = w; row = s.row }) own in
    subst (λ u. CountFew S max (u ∷ []) true old new) same (counted_by_next S max t true old new maps plain (λ e. merged_by_next S max t next old new is few) rows idle)
next_counts S max s v (Err e) old new own maps plain is few rows idle =
    let t : Slot = record { number = s.number; name = s.name; version = v; row = s.row } in
    let same : t ≡ s = ap (λ w. record { number = s.number; name = s.name; version = w; row = s.row }) own in
    subst (λ u. CountFew S max (u ∷ []) false old new) same (counted_by_next S max t false old new maps plain (λ e. absurd cc) rows idle)
