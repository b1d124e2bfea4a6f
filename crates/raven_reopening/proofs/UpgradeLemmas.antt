-- Rows open alike if each definition stands in the second version.
use Rattle.std.proofs.Common.{◌≡◌, ℕ, ◌+◌, ◌≤◌, List, [], ◌∷◌, true, false, cond, length, map, Some, None, option_map, Result, Ok, Err, refl, sym, ap, ◌∙◌, subst, inl, inr}
use Rattle.spec_data.specs.Folding.{same_key}
use Rattle.spec_data.specs.Kept.{KeptRow}
use Rattle.spec_data.specs.Rows.{Row, Body, doc, gone, key}
use Rattle.spec_store.specs.Commit.{Setting, stored_body}
use Rattle.spec_store.specs.Kept.{is_stored, rows_in}
use Rattle.spec_store.specs.Store.{AreApart, AreRising, row_at, store_of}
use Rattle.spec_store.proofs.StoreLemmas.{IsStore-of}
use Rattle.index_tree.specs.Definitions.{Definition, Static, Auto, AutoReduce}
use Rattle.spec_index.specs.World.{Slot, row_body}
use Rattle.spec_server.specs.Courses.{Machine}
use Rattle.spec_server.specs.Opening.{ReadRow, and_then, is_defining, opened, opened_with, or_bad, rows_of, slots_after, slots_from, with_slot}
use Rattle.spec_server.specs.Sound.{Has, IsBodyOf, first, second}
use Rattle.raven_laws.specs.Versions.{upgraded, upgraded_body, upgraded_read, with_version}
use Rattle.raven_laws.proofs.LimitLemmas.{length_mapped}
use Rattle.raven_laws.proofs.OpenLemmas.{BodyRises, rows_in-AreRowsOf, taken-of, toldin-is, with_slot-is}
use Rattle.raven_laws.proofs.VersionLemmas.{defining-kept, slots-kept, with_version-first}
use Rattle.index_lang.specs.Openings.{AreReadRows, IsInBody, IsOpened, IsOpenedBy, IsReadIf, IsReadRow}
use Rattle.raven_reading.proofs.TextLemmas.{body-told}
use Rattle.raven_reopening.specs.Upgraded.{AreShort, IsShort, OpensUpgraded}
use Rattle.raven_reopening.proofs.OpenedLemmas.{machine_of, rows-back, same_opened}
use Rattle.raven_reopening.proofs.ReadLemmas.{AreBack, IsBack, IsBodyBack, document-back, rows_in-kept}
use Rattle.raven_reopening.proofs.VersionLemmas.{fine-written, read-written}

-- ROWS

rising-upgraded : (low : ℕ) (rows : List Row) → AreRising low rows → AreRising low (map upgraded rows)
rising-upgraded low [] up = tt
rising-upgraded low (r ∷ rows) up = (up.0, rising-upgraded r.etag rows up.1)

at-upgraded : (q : List ℕ) (rows : List Row) → row_at q (map upgraded rows) ≡ option_map upgraded (row_at q rows)
at-upgraded q [] = refl
at-upgraded q (r ∷ rows) = elim (same_key q (key r)) as (λ b. cond b (Some (upgraded r)) (row_at q (map upgraded rows)) ≡ option_map upgraded (cond b (Some r) (row_at q rows))) [
  | true ↦ refl
  | false ↦ at-upgraded q rows
]

apart-upgraded : (rows : List Row) → AreApart rows → AreApart (map upgraded rows)
apart-upgraded [] apart = tt
apart-upgraded (r ∷ rows) apart = (at-upgraded (key r) rows ∙ ap (option_map upgraded) apart.0, apart-upgraded rows apart.1)

rows-upgraded : (xs : List ReadRow) → rows_of (map upgraded_read xs) ≡ map upgraded (rows_of xs)
rows-upgraded [] = refl
rows-upgraded (x ∷ xs) = ap (λ rows. upgraded x.row ∷ rows) (rows-upgraded xs)

-- BODIES

other-kept : (b : Body) → upgraded_body false b ≡ b
other-kept (doc d) = refl
other-kept gone = refl

version-again : (d : Definition) → with_version (stored_body (row_body d)) ≡ stored_body (row_body d)
version-again (Static query reduce words reduce_words) = refl
version-again (Auto c fs) = refl
version-again (AutoReduce c gs ss) = refl

-- either version becomes the second one
body-upgraded : (d : Definition) (b : Body) → IsBodyOf d b → upgraded_body true b ≡ doc (stored_body (row_body d))
body-upgraded d b (second is) = ap (upgraded_body true) is ∙ ap doc (version-again d)
body-upgraded d b (first is none) = ap (upgraded_body true) is ∙ ap doc (with_version-first d)

clean-written : (d : Definition) → is_stored (stored_body (row_body d)) ≡ true
clean-written (Static query reduce words reduce_words) = refl
clean-written (Auto c fs) = refl
clean-written (AutoReduce c gs ss) = refl

-- ONE ROW

-- the row is read in the second version as it is read, and is valid if its text is not too long
record IsUpgradable (x : ReadRow) : Type 0 where
  pub right : IsReadRow (upgraded_read x)
  pub back : IsShort (upgraded x.row).body → IsBack (upgraded x.row)

other-upgradable : (x : ReadRow) → is_defining x.row ≡ false → IsReadRow x → IsBack x.row → IsUpgradable x
other-upgradable x e right back =
    let same : (upgraded x.row).body ≡ x.row.body = ap (λ b. upgraded_body b x.row.body) e ∙ other-kept x.row.body in
    record {
      right = subst (λ b. IsReadIf b (upgraded x.row) x.definition) (sym (defining-kept x.row ∙ e)) (subst (λ b. IsReadIf b x.row x.definition) e right);
      back = λ short. record { etag = back.etag; id = back.id; collection = back.collection; changed = back.changed; body = subst IsBodyBack (sym same) back.body };
    }

defined-upgradable : (x : ReadRow) (d : Definition) → is_defining x.row ≡ true → x.definition ≡ Some d → IsReadRow x → BodyRises x.row.body → IsBack x.row → IsUpgradable x
defined-upgradable x d e is right rises back =
    let read = subst (IsInBody x.row.body) is (subst (λ b. IsReadIf b x.row x.definition) e right) in
    let its = toldin-is x.row.body d rises (body-told x.row.body d read) in
    let body : (upgraded x.row).body ≡ doc (stored_body (row_body d)) = ap (λ b. upgraded_body b x.row.body) e ∙ body-upgraded d x.row.body its in
    let fine = fine-written d x.row.body its back.body in
    let written : IsInBody (upgraded x.row).body (Some d) = subst (λ b. IsInBody b (Some d)) (sym body) (read-written d x.row.body its read) in
    record {
      right = subst (λ b. IsReadIf b (upgraded x.row) x.definition) (sym (defining-kept x.row ∙ e)) (subst (IsInBody (upgraded x.row).body) (sym is) written);
      back = λ short. record {
        etag = back.etag;
        id = back.id;
        collection = back.collection;
        changed = back.changed;
        body = subst IsBodyBack (sym body)
            (document-back (stored_body (row_body d)) (record { sound = fine.0; shallow = fine.1; clean = clean-written d; small = subst IsShort body short }));
      };
    }

-- a definition was read of the row, if it is that of one and an index was made of it
one-upgradable : (s : Setting) (all : List Row) (n : ℕ) (slots : List Slot) (x : ReadRow) (more : List Slot) → slots_after s all n slots x ≡ Some more
    → IsReadRow x → BodyRises x.row.body → IsBack x.row → IsUpgradable x
one-upgradable s all n slots x more h right rises back =
    elim (is_defining x.row) as (λ b. is_defining x.row ≡ b → cond b (with_slot all slots x.row x.definition) (Some slots) ≡ Some more → IsUpgradable x) [
      | true ↦ λ e g. let w = with_slot-is all slots x.row x.definition more g in defined-upgradable x w.definition e w.read right rises back
      | false ↦ λ e g. other-upgradable x e right back
    ] refl (taken-of s all n slots x more h).rest

-- ALL ROWS

abbrev AreUpgradable : List ReadRow → Type 0
AreUpgradable [] = Unit {0}
AreUpgradable (x ∷ xs) = IsUpgradable x × AreUpgradable xs

all-upgradable : (s : Setting) (all : List Row) (n : ℕ) (slots : List Slot) (xs : List ReadRow) (last : List Slot) → slots_from s all n slots xs ≡ Ok last → AreReadRows xs
    → ((r : Row) → Has (rows_of xs) r → BodyRises r.body) → ((r : Row) → Has (rows_of xs) r → IsBack r) → AreUpgradable xs
all-upgradable s all n slots [] last h right rises back = tt
all-upgradable s all n slots (x ∷ xs) last h right rises back =
    elim (slots_after s all n slots x) as (λ o. slots_after s all n slots x ≡ o → and_then (or_bad x.row.etag o) (λ more. slots_from s all (n + 1) more xs) ≡ Ok last → AreUpgradable (x ∷ xs)) [
      | None ↦ λ e g. absurd cc
      | Some more ↦ λ e g. (
        one-upgradable s all n slots x more e right.0 (rises x.row (inl refl)) (back x.row (inl refl)),
        all-upgradable s all (n + 1) more xs last g right.1 (λ r at. rises r (inr at)) (λ r at. back r (inr at)),
      )
    ] refl h

right-upgraded : (xs : List ReadRow) → AreUpgradable xs → AreReadRows (map upgraded_read xs)
right-upgraded [] u = tt
right-upgraded (x ∷ xs) u = (u.0.right, right-upgraded xs u.1)

back-upgraded : (xs : List ReadRow) → AreUpgradable xs → AreShort (map upgraded (rows_of xs)) → AreBack (map upgraded (rows_of xs))
back-upgraded [] u short = tt
back-upgraded (x ∷ xs) u short = (u.0.back short.0, back-upgraded xs u.1 short.1)

-- THE MACHINE

slots-upgraded : (s : Setting) (held : List KeptRow) (xs : List ReadRow) (slots : List Slot) → rows_in s.max_rows held ≡ Ok (rows_of xs) → AreReadRows xs
    → slots_from s (rows_of xs) 0 [] xs ≡ Ok slots → AreShort (map upgraded (rows_of xs)) → OpensUpgraded s (machine_of s (rows_of xs) slots).world
slots-upgraded s held xs slots e right k short =
    let rows = map upgraded (rows_of xs) in
    let stand = (rows_in-AreRowsOf s.max_rows held (rows_of xs) e).stand in
    let all = all-upgradable s (rows_of xs) 0 [] xs slots k right stand.rises (rows-back s.max_rows held (rows_of xs) e) in
    let store = IsStore-of rows (rising-upgraded 0 (rows_of xs) stand.rising) (apart-upgraded (rows_of xs) stand.apart) in
    let few : length rows ≤ s.max_rows = subst (λ n. n ≤ s.max_rows) (sym (length_mapped upgraded (rows_of xs))) stand.count in
    record {
      machine = machine_of s rows slots;
      opens = subst (λ r. IsOpenedBy s r (Ok (machine_of s rows slots))) (sym (rows_in-kept (store_of rows) s.max_rows store (back-upgraded xs all short) few)) (record {
        read = map upgraded_read xs;
        rows = rows-upgraded xs;
        right = right-upgraded xs all;
        opened = ap (λ ys. opened_with s ys (slots_from s rows 0 [] (map upgraded_read xs))) (rows-upgraded xs) ∙ ap (opened_with s rows) (slots-kept s (rows_of xs) 0 [] xs ∙ k);
      });
      store = refl;
      slots = refl;
    }

read-upgraded : (s : Setting) (held : List KeptRow) (M : Machine) (xs : List ReadRow) → rows_in s.max_rows held ≡ Ok (rows_of xs) → AreReadRows xs
    → (r : Result (List Slot) ℕ) → slots_from s (rows_of xs) 0 [] xs ≡ r → opened_with s (rows_of xs) r ≡ Ok M → AreShort (map upgraded M.world.store.rows) → OpensUpgraded s M.world
read-upgraded s held M xs e right (Err etag) k g = absurd cc
read-upgraded s held M xs e right (Ok slots) k g =
    subst (λ (N : Machine). AreShort (map upgraded N.world.store.rows) → OpensUpgraded s N.world) (same_opened (machine_of s (rows_of xs) slots) M g)
    (slots-upgraded s held xs slots e right k)

opened-upgraded : (s : Setting) (held : List KeptRow) (M : Machine) (r : Result (List Row) ℕ) → rows_in s.max_rows held ≡ r → IsOpenedBy s r (Ok M)
    → AreShort (map upgraded M.world.store.rows) → OpensUpgraded s M.world
opened-upgraded s held M (Err etag) e x = absurd cc
opened-upgraded s held M (Ok rows) e x =
    read-upgraded s held M x.read (e ∙ ap Ok (sym x.rows)) x.right (slots_from s (rows_of x.read) 0 [] x.read) refl (ap (λ all. opened s all x.read) x.rows ∙ x.opened)

pub held-upgraded : (s : Setting) (held : List KeptRow) (M : Machine) → IsOpened s held (Ok M) → AreShort (map upgraded M.world.store.rows) → OpensUpgraded s M.world
held-upgraded s held M x = opened-upgraded s held M (rows_in s.max_rows held) refl x
