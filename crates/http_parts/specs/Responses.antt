-- The bytes of a response.
use Rattle.std.specs.Prelude.{ℕ, Bool, List, [], ◌++◌, ◌==◌, length, codes, if◌then◌else◌}
use Rattle.std.specs.Fmt.{decimal}

-- the phrase of a status
abbrev pub phrase : ℕ → List ℕ
phrase n =
    if n == 200 then codes "OK"
    else if n == 201 then codes "Created"
    else if n == 204 then codes "No Content"
    else if n == 400 then codes "Bad Request"
    else if n == 404 then codes "Not Found"
    else if n == 409 then codes "Conflict"
    else if n == 413 then codes "Payload Too Large"
    else if n == 415 then codes "Unsupported Media Type"
    else if n == 431 then codes "Request Header Fields Too Large"
    else if n == 503 then codes "Service Unavailable"
    else if n == 507 then codes "Insufficient Storage"
    else []

-- whether the connection is closed after it
abbrev pub closing : Bool → List ℕ
closing close = if close then codes "Connection: close\r\n" else []

-- the fields on the body, and the body; a response without content has neither
abbrev pub content : ℕ → List ℕ → List ℕ
content status body =
    if status == 204 then codes "\r\n"
    else codes "Content-Length: " ++ decimal (length body) ++ codes "\r\nContent-Type: application/json; charset=utf-8\r\n\r\n" ++ body

-- the bytes of a response
abbrev pub response : ℕ → Bool → List ℕ → List ℕ
response status close body = codes "HTTP/1.1 " ++ decimal status ++ codes " " ++ phrase status ++ codes "\r\n" ++ closing close ++ content status body
