-- What the note of an ask says of the ask.
use Rattle.std.specs.Prelude.{◌≡◌, ℕ, true, List, Option, Some, IfSome, Ok}
use Rattle.usp_conf.specs.Values.{ConfValue}
use Rattle.usp_edge.specs.Asks.{cookie_in}
use Rattle.usp_edge.specs.declared.note.Note.{Note}
use Rattle.usp_package.specs.Name.{is_attr_name}
use Rattle.usp_package.specs.Package.{nothing, package_of}
use Rattle.usp_rules.specs.Asks.{token_in}
use Rattle.usp_script.specs.Script.{attribute_of}
use Rattle.usp_script.specs.declared.ask.LabAsk.{LabAsk}
use Rattle.usp_uri.specs.Components.{after_authority, authority_in, scheme_in}
use Rattle.usp_uri.specs.Faults.{normal_of}
use Rattle.usp_uri.specs.Origin.{request_text}
use Rattle.usp_lab.specs.Entries.{content_of}
use Rattle.usp_lab.specs.LabHead.{IsBorne, asked_uri, cookies_of}

-- The note is of the ask that carries this token: of its URI, with the scheme of the edge and the token where that is
-- in the query, at its moment. The request brings the token of that URI's package, or without one that of the cookie.
pub record NotesAsk (edge : ConfValue) (ask : LabAsk) (carried : Option (List ℕ)) (note : Note) : Type 0 where
  pub uri : note.uri ≡ request_text edge.scheme (authority_in ask.uri)
      (after_authority (asked_uri (attribute_of edge) ask.uri ask.carried carried))
  pub token : note.token ≡ token_in (package_of (attribute_of edge) note.uri)
      (cookie_in (attribute_of edge) (cookies_of (attribute_of edge) ask.carried carried))
  pub moment : note.moment ≡ ask.moment

-- An ask of a URI in normal form that has no package, with the scheme of its edge, which carries this token or none.
pub record IsPlain (edge : ConfValue) (ask : LabAsk) (carried : Option (List ℕ)) : Type 0 where
  pub attribute : is_attr_name (attribute_of edge) ≡ true
  pub normal : normal_of ask.uri ≡ Ok ask.uri
  pub scheme : edge.scheme ≡ scheme_in ask.uri
  pub bare : package_of (attribute_of edge) ask.uri ≡ nothing
  pub borne : IfSome carried IsBorne

-- The note is of the ask itself: its URI is the one that is asked for, its content the ask's, and its token the one
-- that the ask carries.
pub record IsOfAsk (edge : ConfValue) (ask : LabAsk) (carried : Option (List ℕ)) (note : Note) : Type 0 where
  pub uri : note.uri ≡ asked_uri (attribute_of edge) ask.uri ask.carried carried
  pub content : content_of edge note ≡ Some ask.uri
  pub token : note.token ≡ carried
