use Rattle.std.proofs.Common.{◌∙◌, ap}
use Rattle.std.specs.Prelude.{option_map}
use Rattle.matchit.specs.Router.{RouteOf}
use Rattle.matchit.specs.Rows.{RowsOf}
use Rattle.matchit.specs.Seek.{first}
use Rattle.rest_parse.specs.Routes.{endpoint_at}
use Rattle.rest_parse.specs.declared.routes.Endpoint.{Endpoint}
use Rattle.rest_parse.proofs.Static.{first-endpoint, no_endpoint}
use Rattle.rest_parse.proofs.routes.Routes.endpoint_at.Goals as goal

pub returns-in-Ok : goal.returns-in-Ok
returns-in-Ok c =
    let path = c.in-Ok.path.now in
    c.found.ensures ∙ ap (λ (rs : RowsOf (RouteOf Endpoint)). option_map (λ (r : RouteOf Endpoint). r.value) (first rs path)) c.args.self.now.whole
    ∙ first-endpoint path ∙ ap endpoint_at c.in-Ok.ensures.cases.0

pub returns-in-Err : goal.returns-in-Err
returns-in-Err c = no_endpoint c.args.path.now c.in-Err.ensures.cases.0
