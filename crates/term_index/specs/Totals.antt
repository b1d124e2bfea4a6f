-- Marks are in a total order.
use Rattle.std.specs.Cmp.{IsTotalOrder, on_total, nat_cmp_total, int_cmp_total, then_total}
use Rattle.std.specs.Cmp.Lexicographic.{nat_list_cmp_total}
use Rattle.term_index.specs.Marks.{Mark, kind, number_of, text_of, value_cmp, mark_cmp}

pub values_total : IsTotalOrder value_cmp
values_total = then_total (on_total kind nat_cmp_total) (then_total (on_total number_of int_cmp_total) (on_total text_of nat_list_cmp_total))

pub marks_total : IsTotalOrder mark_cmp
marks_total =
    then_total (on_total (λ (m : Mark). m.value) values_total) (
    then_total (on_total (λ (m : Mark). m.side) nat_cmp_total) (on_total (λ (m : Mark). m.id) nat_list_cmp_total))
