-- Codes of plans, of what is asked and of their parts, by which they can be the value of a Rust type.
use Rattle.std.specs.Prelude.{◌≡◌, ℕ, ℤ, suc, max, List, Bool, Option, refl}
use Rattle.std.specs.Coded.{Coded, coded_ℕ, coded_ℤ, coded_bool, coded_list, coded×, coded_option, code_by}
use Rattle.std.proofs.Common.{ap}
use base.Stored.{Gv, gnil, gnum, gcons}
use Rattle.spec_data.specs.Codes.{scalar_code}
use Rattle.spec_data.specs.Coding.{first, rest, tag, text_code}
use Rattle.spec_data.specs.DataCode.{data_code}
use Rattle.spec_data.specs.Members.{Path}
use Rattle.spec_data.specs.Rising.{Pairs}
use Rattle.spec_data.specs.Scalars.{Test}
use Rattle.spec_data.specs.Scalars as scalar
use Rattle.spec_query.specs.Condition.{Condition}
use Rattle.spec_query.specs.Fields.{Offered}
use Rattle.spec_query.specs.Plan.{Plan, Selected}
use Rattle.spec_query.specs.Query.{Ask, Field, Query}
use Rattle.spec_query.specs.Sorting.{SortKey}
use Rattle.rql_tree.specs.Codes.{field_code, path_code, query_code}

-- CONDITIONS

abbrev test_gv : Test → Gv
test_gv (scalar.Is a) = gcons (gnum 0) (scalar_code.code a)
test_gv (scalar.Not a) = gcons (gnum 1) (scalar_code.code a)
test_gv (scalar.Below a) = gcons (gnum 2) (scalar_code.code a)
test_gv (scalar.AtMost a) = gcons (gnum 3) (scalar_code.code a)
test_gv (scalar.Above a) = gcons (gnum 4) (scalar_code.code a)
test_gv (scalar.AtLeast a) = gcons (gnum 5) (scalar_code.code a)
test_gv (scalar.Between a b) = gcons (gnum 6) (gcons (scalar_code.code a) (scalar_code.code b))
test_gv (scalar.In others) = gcons (gnum 7) ((coded_list scalar_code).code others)
test_gv (scalar.Starts t) = gcons (gnum 8) (text_code.code t)
test_gv scalar.There = gcons (gnum 9) gnil

pub test_gv_inj : (x y : Test) → test_gv x ≡ test_gv y → x ≡ y
test_gv_inj (scalar.Is a) (scalar.Is b) p = ap scalar.Is (scalar_code.inj a b (ap rest p))
test_gv_inj (scalar.Not a) (scalar.Not b) p = ap scalar.Not (scalar_code.inj a b (ap rest p))
test_gv_inj (scalar.Below a) (scalar.Below b) p = ap scalar.Below (scalar_code.inj a b (ap rest p))
test_gv_inj (scalar.AtMost a) (scalar.AtMost b) p = ap scalar.AtMost (scalar_code.inj a b (ap rest p))
test_gv_inj (scalar.Above a) (scalar.Above b) p = ap scalar.Above (scalar_code.inj a b (ap rest p))
test_gv_inj (scalar.AtLeast a) (scalar.AtLeast b) p = ap scalar.AtLeast (scalar_code.inj a b (ap rest p))
test_gv_inj (scalar.Between a b) (scalar.Between c d) p = λ i. scalar.Between (scalar_code.inj a c (ap (λ g. first (rest g)) p) i) (scalar_code.inj b d (ap (λ g. rest (rest g)) p) i)
test_gv_inj (scalar.In a) (scalar.In b) p = ap scalar.In ((coded_list scalar_code).inj a b (ap rest p))
test_gv_inj (scalar.Starts s) (scalar.Starts t) p = ap scalar.Starts (text_code.inj s t (ap rest p))
test_gv_inj scalar.There scalar.There p = refl
test_gv_inj _ _ p = let q = ap tag p in cc

abbrev condition_gv : Condition → Gv
condition_gv (Condition.Or x y) = gcons (gnum 0) (gcons (condition_gv x) (condition_gv y))
condition_gv (Condition.And x y) = gcons (gnum 1) (gcons (condition_gv x) (condition_gv y))
condition_gv (Condition.Not x) = gcons (gnum 2) (condition_gv x)
condition_gv (Condition.Exact x) = gcons (gnum 3) (condition_gv x)
condition_gv Condition.Always = gcons (gnum 4) gnil
condition_gv (Condition.Has f t) = gcons (gnum 5) (gcons (text_code.code f) (test_gv t))

pub condition_gv_inj : (x y : Condition) → condition_gv x ≡ condition_gv y → x ≡ y
condition_gv_inj (Condition.Or x y) (Condition.Or l m) p = λ i. Condition.Or (condition_gv_inj x l (ap (λ g. first (rest g)) p) i) (condition_gv_inj y m (ap (λ g. rest (rest g)) p) i)
condition_gv_inj (Condition.And x y) (Condition.And l m) p = λ i. Condition.And (condition_gv_inj x l (ap (λ g. first (rest g)) p) i) (condition_gv_inj y m (ap (λ g. rest (rest g)) p) i)
condition_gv_inj (Condition.Not x) (Condition.Not l) p = λ i. Condition.Not (condition_gv_inj x l (ap rest p) i)
condition_gv_inj (Condition.Exact x) (Condition.Exact l) p = λ i. Condition.Exact (condition_gv_inj x l (ap rest p) i)
condition_gv_inj Condition.Always Condition.Always p = refl
condition_gv_inj (Condition.Has f t) (Condition.Has g u) p = λ i. Condition.Has (text_code.inj f g (ap (λ z. first (rest z)) p) i) (test_gv_inj t u (ap (λ z. rest (rest z)) p) i)
condition_gv_inj _ _ p = let q = ap tag p in cc

abbrev pub condition_code : Coded Condition
condition_code = record { code = condition_gv; inj = condition_gv_inj }

-- how many conditions are within one another
abbrev pub height : Condition → ℕ
height (Condition.Or a b) = suc (max (height a) (height b))
height (Condition.And a b) = suc (max (height a) (height b))
height (Condition.Not a) = suc (height a)
height (Condition.Exact a) = suc (height a)
height Condition.Always = 1
height (Condition.Has f t) = 1

-- PLANS

abbrev pub key_code : Coded SortKey
key_code = code_by (List ℕ × (Bool × Bool)) (coded× text_code (coded× coded_bool coded_bool)) (λ k. (k.field, (k.long, k.desc))) (λ p. record { field = p.0; long = p.1.0; desc = p.1.1 }) (λ _. refl)

abbrev pub selected_code : Coded Selected
selected_code = code_by (List ℕ × Field) (coded× text_code field_code) (λ c. (c.name, c.field)) (λ p. record { name = p.0; field = p.1 }) (λ _. refl)

abbrev pub plan_code : Coded Plan
plan_code = code_by (Condition × (List SortKey × (List Selected × (List Path × (ℕ × Option ℕ)))))
    (coded× condition_code (coded× (coded_list key_code) (coded× (coded_list selected_code) (coded× (coded_list path_code) (coded× coded_ℕ (coded_option coded_ℕ))))))
    (λ q. (q.condition, (q.order, (q.columns, (q.includes, (q.start, q.size))))))
    (λ p. record { condition = p.0; order = p.1.0; columns = p.1.1.0; includes = p.1.1.1.0; start = p.1.1.1.1.0; size = p.1.1.1.1.1 }) (λ _. refl)

-- WHAT IS ASKED

abbrev pub ask_code : Coded Ask
ask_code = code_by (Query × (Pairs × (ℤ × (Option ℤ × (Option ℕ × (Bool × ℕ))))))
    (coded× query_code (coded× (coded_list (coded× text_code data_code)) (coded× coded_ℤ (coded× (coded_option coded_ℤ) (coded× (coded_option coded_ℕ) (coded× coded_bool coded_ℕ))))))
    (λ a. (a.query, (a.parameters, (a.start, (a.size, (a.cutoff, (a.waits, a.looks)))))))
    (λ p. record { query = p.0; parameters = p.1.0; start = p.1.1.0; size = p.1.1.1.0; cutoff = p.1.1.1.1.0; waits = p.1.1.1.1.1.0; looks = p.1.1.1.1.1.1 }) (λ _. refl)

abbrev pub offered_code : Coded Offered
offered_code = code_by (List (List ℕ) × Bool) (coded× (coded_list text_code) coded_bool) (λ d. (d.names, d.reduced)) (λ p. record { names = p.0; reduced = p.1 }) (λ _. refl)
