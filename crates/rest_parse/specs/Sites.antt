-- Requests to a service itself: for its page, and that it shut down.
use Rattle.std.specs.Prelude.{ℕ, List, [], bytes_eq, if◌then◌else◌, Option, Some, None, Result, Ok, Err, codes}
use Rattle.rest_parse.specs.Calls.{unless_bad}
use Rattle.rest_parse.specs.Query.{pairs_of, path_in, query_in}
use Rattle.rest_parse.specs.ReviewPairs.{unfit_name}
use Rattle.rest_parse.specs.declared.calls.HttpFault.{HttpFault}
use Rattle.rest_parse.specs.declared.calls.HttpFault.TheVariants as fault
use Rattle.rest_parse.specs.declared.review_pairs.Form.TheVariants as form
use Rattle.rest_parse.specs.declared.sites.SiteCall.{SiteCall}
use Rattle.rest_parse.specs.declared.sites.SiteCall.TheVariants as site
use Rattle.rest_stream.specs.declared.raw.RawRequest.{RawRequest}

-- what is asked at a path
abbrev pub site_at : List ℕ → Option SiteCall
site_at path = if bytes_eq path (codes "/") then Some site.Page else if bytes_eq path (codes "/cluster/close") then Some site.Close else None

-- what a request asks of the service itself, by its path
unfoldable pub site_call : RawRequest → Option SiteCall
site_call raw = site_at (path_in raw.target)

-- the method of each
abbrev pub site_method : SiteCall → List ℕ
site_method site.Page = codes "GET"
site_method site.Close = codes "POST"

-- it is asked, or the request has a fault: the method, then the first pair that isn't accepted everywhere or stands again
unfoldable pub site_meaning : SiteCall → RawRequest → Result (Unit {0}) HttpFault
site_meaning call raw =
    if bytes_eq raw.method (site_method call) then unless_bad (unfit_name form.Bare [] (pairs_of (query_in raw.target))) (Ok tt)
    else Err fault.WrongMethod
