-- The statuses of responses (RFC 9110, section 15), with their phrases as the library `http` has them.
use Rattle.std.specs.Prelude.{ℕ, List, [], unwrap_or}
use Rattle.http.specs.StatusCode.{reason_phrase}
use Rattle.tb_http.specs.declared.status.Status.{Status}
use Rattle.tb_http.specs.declared.status.Status.TheVariants.{Ok, BadRequest, Forbidden, NotFound, MethodNotAllowed}
use Rattle.tb_http.specs.declared.status.Status.TheVariants.{Conflict, PayloadTooLarge, UnprocessableEntity}
use Rattle.tb_http.specs.declared.status.Status.TheVariants.{ServiceUnavailable, InsufficientStorage}

-- the code
abbrev pub code_of : Status → ℕ
code_of Ok = 200
code_of BadRequest = 400
code_of Forbidden = 403
code_of NotFound = 404
code_of MethodNotAllowed = 405
code_of Conflict = 409
code_of PayloadTooLarge = 413
code_of UnprocessableEntity = 422
code_of ServiceUnavailable = 503
code_of InsufficientStorage = 507

-- the phrase
abbrev pub phrase_of : Status → List ℕ
phrase_of s = unwrap_or (reason_phrase (code_of s)) []
