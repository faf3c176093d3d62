use Rattle.std.proofs.Common.{rules, ◌≡◌, ◌<◌, ◌≤◌, ◌+◌, ◌∙◌, Option, Some, None, ap, arith, get_or, length, map, option_map, take, sym}
use Rattle.std.specs.Option.{unwrap_or}
use Rattle.dired_text.specs.Paths.{Names}
use Rattle.path_map.specs.Walks.{firsts, value_at}
use Rattle.edit_words.specs.declared.row.Route.{Route}
use Rattle.edit_words.specs.declared.row.Route.TheVariants.{Stays}
use Rattle.edit_words.specs.Place.{routed}
use Rattle.edit_words.specs.Rows.{route_of, row_from}
use Rattle.edit_rules.proofs.PlaceLemmas.{begun, placed_next, route_at, route_noted, routes_counted}
use Rattle.edit_rules.proofs.places.place.Goals as goal

pub last_sent-last-requires : goal.last_sent-last-requires
last_sent-last-requires c =
    let path = c.args.path.now in
    let routes = c.args.table.now.routes in
    let items = c.in_ok-routes.routes.items in
    let found : map (option_map (λ t. t.now)) items ≡ map (value_at routes) (firsts path) = search rules in
    let many : length items ≡ length path + 1 = routes_counted (option_map (λ t. t.now)) items (value_at routes) path found in
    omega (arith, many)

pub index-route-requires : goal.index-route-requires
index-route-requires c =
    let path = c.args.path.now in
    let routes = c.args.table.now.routes in
    let items = c.in_ok-routes.routes.items in
    let found : map (option_map (λ t. t.now)) items ≡ map (value_at routes) (firsts path) = search rules in
    let many : length items ≡ length path + 1 = routes_counted (option_map (λ t. t.now)) items (value_at routes) path found in
    let below : c.loop-at.at < length path = search rules in
    omega (arith, many, below)

pub loop-at-init : goal.loop-at-init
loop-at-init c =
    let rows = c.args.table.now.rows.items in
    let path = c.args.path.now in
    let routes = c.args.table.now.routes in
    let items = c.in_ok-routes.routes.items in
    let last = c.last_sent-last.result in
    let x = c.index.result.now in
    let found : map (option_map (λ t. t.now)) items ≡ map (value_at routes) (firsts path) = search rules in
    let many : length items ≡ length path + 1 = routes_counted (option_map (λ t. t.now)) items (value_at routes) path found in
    let within : last < length items = search rules in
    let short : last ≤ length path = omega (arith, many, within) in
    let is : x ≡ get_or items last x = search rules in
    let shown : option_map (λ t. t.now) x ≡ value_at routes (take last path) = route_at (option_map (λ t. t.now)) items (value_at routes) path found last x short is in
    let route : route_of rows (take last path) ≡ unwrap_or (option_map (λ t. t.now) x) Stays =
    sym (ap (λ (o : Option Route). unwrap_or o Stays) (shown ∙ c.requires.routes (take last path)) ∙ route_noted (take last path) (row_from rows (take last path))) in
    begun (route_of rows) path last c.in_ok-start.start c.in_ok-start.to.items (option_map (λ t. t.now) x) short route (search rules)

pub loop-at-preserved : goal.loop-at-preserved
loop-at-preserved c =
    let rows = c.args.table.now.rows.items in
    let path = c.args.path.now in
    let routes = c.args.table.now.routes in
    let items = c.in_ok-routes.routes.items in
    let at = c.loop-at.at in
    let to = c.loop-at.to.items in
    let name = c.index-names-at.result in
    let x = c.index-route.result.now in
    let old = take (at + 1) path in
    let found : map (option_map (λ t. t.now)) items ≡ map (value_at routes) (firsts path) = search rules in
    let below : at < length path = search rules in
    let name_is : name ≡ get_or path at name = search rules in
    let is : x ≡ get_or items (at + 1) x = search rules in
    let shown : option_map (λ t. t.now) x ≡ value_at routes old = route_at (option_map (λ t. t.now)) items (value_at routes) path found (at + 1) x (omega (arith, below)) is in
    let got : c.in_ok-to.to.items ≡ routed (unwrap_or (option_map (λ t. t.now) x) Stays) to name = search rules in
    let next : c.in_ok-to.to.items ≡ routed (route_of rows old) to name =
    got
    ∙ ap (λ (o : Option Route). routed (unwrap_or o Stays) to name) (shown ∙ c.requires.routes old)
    ∙ ap (λ (r : Route). routed r to name) (route_noted old (row_from rows old)) in
    placed_next (route_of rows) path to c.in_ok-to.to.items at name below name_is next c.loop-at.invariant
