use Rattle.std.proofs.Common.{List, [], ◌∷◌, ◌++◌, map, take, sym, ap, ◌∙◌, subst, Bor}
use Rattle.std.proofs.lemmas.List.{map_more, map_push, take_all}
use Rattle.spec_index.specs.World.{Version}
use Rattle.index_groups.specs.Groups.{Grouped}
use Rattle.index_version.specs.Named.{NamedVersion}
use Rattle.index_version.specs.Together.{AreIn}
use Rattle.index_version.proofs.Several.{group_more, none_more}
use Rattle.index_version.proofs.together.groups_of.Goals as goal
use Rattle.index_version.proofs.together.groups_of.Goals.{in-Some+in_ok-push, in_default}

abbrev version_in : Bor NamedVersion → Version
version_in v = v.now.version

abbrev seen : List (Bor Grouped) → List Grouped
seen groups = map (λ (g : Bor Grouped). g.now) groups

pub loop-version-preserved : goal.loop-version-preserved
loop-version-preserved c =
    let i = c.loop-version.version-index in
    let all = c.args.versions.now in
    let item = c.version-item.result in
    let before = map version_in (take i all) in
    let front = c.loop-version.groups.items in
    let more = map_more version_in all i item c.loop-version-test.true ∙ ap (λ (v : Bor NamedVersion). before ++ version_in v ∷ []) (sym c.version-item.is) in
    subst (λ (vs : List Version). AreIn (seen c.match-given_groups.groups.items) vs) (sym more)
    (elim c.match-given_groups.branch [
      | in-Some+in_ok-push w ↦
          let own = w.in-Some.own in
          let pushed = ap (λ gs. seen gs.items) w.groups-is ∙ ap seen w.in_ok-push.ensures.items ∙ map_push (λ (g : Bor Grouped). g.now) front own in
          subst (λ (gs : List Grouped). AreIn gs (before ++ version_in item ∷ [])) (sym pushed) (group_more (seen front) before (version_in item) own.now w.in-Some.ensures c.loop-version.invariant)
      | in_default w ↦ none_more (seen c.match-given_groups.groups.items) before (version_in item) w.in_default.ensures
    ])

pub returns : goal.returns
returns c = subst (λ (vs : List (Bor NamedVersion)). AreIn (seen c.loop-version.groups.items) (map version_in vs)) (take_all c.loop-version.version-index c.args.versions.now c.loop-version-test.false) c.loop-version.invariant
