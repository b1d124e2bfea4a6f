-- What a plan finds: each fold that a member needs is folded, and the place of a name or of a fold is where it is.
use Rattle.std.proofs.Common.{◌≡◌, ◌≢◌, suc, Bool, true, false, cond, ◌&&◌, List, [], ◌∷◌, ◌++◌, length, refl, sym, ap, ◌∙◌, arith}
use Rattle.std.specs.Str.{bytes_eq}
use Rattle.std.proofs.lemmas.Slice.Eq.{bytes_eq-Decides}
use Rattle.index_tree.specs.declared.reduce_query.FoldKind.{FoldKind}
use Rattle.index_tree.specs.declared.reduce_query.FoldKind.TheVariants as kind
use Rattle.index_tree.specs.declared.reduce_query.FoldMember.{FoldMember}
use Rattle.index_tree.specs.declared.reduce_query.FoldValue.{FoldValue}
use Rattle.index_tree.specs.declared.reduce_query.FoldValue.TheVariants as value
use Rattle.reduce_folds.specs.declared.field_fold.FieldFold.{FieldFold}
use Rattle.index_groups.specs.Cells.{fold_by, folds_of, is_same, is_same_kind, place_of, with_all_needed, with_fold, with_needed}

-- SAME FOLDS

kind_is : (a b : FoldKind) → is_same_kind a b ≡ true → a ≡ b
kind_is kind.Sum kind.Sum e = refl
kind_is kind.Sum kind.Min e = absurd (cc e)
kind_is kind.Sum kind.Max e = absurd (cc e)
kind_is kind.Min kind.Sum e = absurd (cc e)
kind_is kind.Min kind.Min e = refl
kind_is kind.Min kind.Max e = absurd (cc e)
kind_is kind.Max kind.Sum e = absurd (cc e)
kind_is kind.Max kind.Min e = absurd (cc e)
kind_is kind.Max kind.Max e = refl

own_kind : (a : FoldKind) → is_same_kind a a ≡ true
own_kind kind.Sum = refl
own_kind kind.Min = refl
own_kind kind.Max = refl

both_true : (a b : Bool) → (a && b) ≡ true → (a ≡ true) × (b ≡ true)
both_true true b e = (refl, e)
both_true false b e = absurd (cc e)

pub same_is : (a b : FieldFold) → is_same a b ≡ true → a ≡ b
same_is a b e =
    let parts = both_true (is_same_kind a.kind b.kind) (bytes_eq a.field b.field) e in
    λ i. record { kind = kind_is a.kind b.kind parts.0 i; field = (bytes_eq-Decides a.field b.field).0 parts.1 i }

own_same : (a : FieldFold) → is_same a a ≡ true
own_same a = λ i. own_kind a.kind i && (bytes_eq-Decides a.field a.field).1 refl i

-- FOLDS THAT ARE THERE

abbrev pub has : FieldFold → List FieldFold → Bool
has fold [] = false
has fold (f ∷ fs) = cond (is_same fold f) true (has fold fs)

has-own : (fold : FieldFold) (fs : List FieldFold) → has fold (with_fold fold fs) ≡ true
has-own fold [] = ap (λ b. cond b true false) (own_same fold)
has-own fold (f ∷ fs) = by (is_same fold f) refl (has-own fold fs)
  where
    by : (b : Bool) → is_same fold f ≡ b → has fold (with_fold fold fs) ≡ true → has fold (cond b (f ∷ fs) (f ∷ with_fold fold fs)) ≡ true
    by true e h = ap (λ b. cond b true (has fold fs)) e
    by false e h = ap (λ b. cond b true (has fold (with_fold fold fs))) e ∙ h

has-kept : (fold other : FieldFold) (fs : List FieldFold) → has fold fs ≡ true → has fold (with_fold other fs) ≡ true
has-kept fold other [] h = absurd (cc h)
has-kept fold other (f ∷ fs) h = by (is_same other f) (is_same fold f) refl (has-kept fold other fs)
  where
    by : (b c : Bool) → is_same fold f ≡ c → (has fold fs ≡ true → has fold (with_fold other fs) ≡ true) → has fold (cond b (f ∷ fs) (f ∷ with_fold other fs)) ≡ true
    by true c e k = h
    by false true e k = ap (λ b. cond b true (has fold (with_fold other fs))) e
    by false false e k = ap (λ b. cond b true (has fold (with_fold other fs))) e ∙ k (sym (ap (λ b. cond b true (has fold fs)) e) ∙ h)

-- a fold that has no place is added, and one that has a place is there
pub added : (fold : FieldFold) (fs : List FieldFold) → place_of (is_same fold) fs ≡ length fs → fs ++ fold ∷ [] ≡ with_fold fold fs
added fold [] e = refl
added fold (f ∷ fs) e = by (is_same fold f) e (added fold fs)
  where
    by : (b : Bool) → cond b 0 (suc (place_of (is_same fold) fs)) ≡ suc (length fs) → (place_of (is_same fold) fs ≡ length fs → fs ++ fold ∷ [] ≡ with_fold fold fs) → f ∷ fs ++ fold ∷ [] ≡ cond b (f ∷ fs) (f ∷ with_fold fold fs)
    by true e h = absurd (omega (arith, e))
    by false e h = ap (λ l. f ∷ l) (h (omega (arith, e)))

pub kept : (fold : FieldFold) (fs : List FieldFold) → place_of (is_same fold) fs ≢ length fs → fs ≡ with_fold fold fs
kept fold [] n = absurd (n refl)
kept fold (f ∷ fs) n = by (is_same fold f) n (kept fold fs)
  where
    by : (b : Bool) → cond b 0 (suc (place_of (is_same fold) fs)) ≢ suc (length fs) → (place_of (is_same fold) fs ≢ length fs → fs ≡ with_fold fold fs) → f ∷ fs ≡ cond b (f ∷ fs) (f ∷ with_fold fold fs)
    by true n h = refl
    by false n h = ap (λ l. f ∷ l) (h (λ e. n (ap suc e)))

-- the folds that a member needs are there
abbrev pub HasNeeded : List FieldFold → FoldValue → Type 0
HasNeeded folds (value.Key name) = Unit {0}
HasNeeded folds (value.Fold kind var field) = has (fold_by kind field) folds ≡ true
HasNeeded folds (value.Quotient var field by_var by) = (has (fold_by kind.Sum field) folds ≡ true) × (has (fold_by kind.Sum by) folds ≡ true)

abbrev pub HasAllNeeded : List FieldFold → List FoldMember → Type 0
HasAllNeeded folds [] = Unit {0}
HasAllNeeded folds (m ∷ ms) = HasNeeded folds m.value × HasAllNeeded folds ms

needed-there : (v : FoldValue) (folds : List FieldFold) → HasNeeded (with_needed v folds) v
needed-there (value.Key name) folds = tt
needed-there (value.Fold kind var field) folds = has-own (fold_by kind field) folds
needed-there (value.Quotient var field by_var divisor) folds =
    let first = with_fold (fold_by kind.Sum field) folds in
    (has-kept (fold_by kind.Sum field) (fold_by kind.Sum divisor) first (has-own (fold_by kind.Sum field) folds), has-own (fold_by kind.Sum divisor) first)

kept-one : (v : FoldValue) (fold : FieldFold) (folds : List FieldFold) → has fold folds ≡ true → has fold (with_needed v folds) ≡ true
kept-one (value.Key name) fold folds h = h
kept-one (value.Fold kind var field) fold folds h = has-kept fold (fold_by kind field) folds h
kept-one (value.Quotient var field by_var divisor) fold folds h =
    has-kept fold (fold_by kind.Sum divisor) (with_fold (fold_by kind.Sum field) folds) (has-kept fold (fold_by kind.Sum field) folds h)

kept-all : (ms : List FoldMember) (fold : FieldFold) (folds : List FieldFold) → has fold folds ≡ true → has fold (with_all_needed ms folds) ≡ true
kept-all [] fold folds h = h
kept-all (m ∷ ms) fold folds h = kept-all ms fold (with_needed m.value folds) (kept-one m.value fold folds h)

needed-kept : (v : FoldValue) (ms : List FoldMember) (folds : List FieldFold) → HasNeeded folds v → HasNeeded (with_all_needed ms folds) v
needed-kept (value.Key name) ms folds h = tt
needed-kept (value.Fold kind var field) ms folds h = kept-all ms (fold_by kind field) folds h
needed-kept (value.Quotient var field by_var divisor) ms folds h = (kept-all ms (fold_by kind.Sum field) folds h.0, kept-all ms (fold_by kind.Sum divisor) folds h.1)

all-there : (ms : List FoldMember) (folds : List FieldFold) → HasAllNeeded (with_all_needed ms folds) ms
all-there [] folds = tt
all-there (m ∷ ms) folds = (needed-kept m.value ms (with_needed m.value folds) (needed-there m.value folds), all-there ms (with_needed m.value folds))

pub needed_folded : (ms : List FoldMember) → HasAllNeeded (folds_of ms) ms
needed_folded ms = all-there ms []
