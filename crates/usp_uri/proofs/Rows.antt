-- Worked examples, computed by the definitions.
use Rattle.std.proofs.Common.{◌≡◌, ℕ, List, Ok, Err, refl}
use Rattle.std.specs.Prelude.{codes}
use Rattle.usp_uri.specs.declared.fault.UriFault.{UriFault}
use Rattle.usp_uri.specs.declared.fault.UriFault.TheVariants as fault
use Rattle.usp_uri.specs.Normal.{remove_dot_segments}
use Rattle.usp_uri.specs.Faults.{normal_of}

abbrev Reads : List ℕ → List ℕ → Type 0
Reads text normal = normal_of text ≡ Ok normal

abbrev Refuses : UriFault → List ℕ → Type 0
Refuses found text = normal_of text ≡ Err found

all_four_steps : Reads (codes "HTTP://Example.COM:80/%7ea/./b/../c") (codes "http://example.com/~a/c")
unfolding normal_of
all_four_steps = refl

escaped_dots : Reads (codes "http://h/a/%2e%2E/b") (codes "http://h/b")
unfolding normal_of
escaped_dots = refl

own_port_goes : Reads (codes "https://h:443?x") (codes "https://h/?x")
unfolding normal_of
own_port_goes = refl

empty_port_goes : Reads (codes "http://h:/%2f") (codes "http://h/%2F")
unfolding normal_of
empty_port_goes = refl

no_digits : Refuses (fault.Escape 9) (codes "http://h/%zz")
unfolding normal_of
no_digits = refl

userinfo : Refuses fault.Userinfo (codes "http://u@h/")
unfolding normal_of
userinfo = refl

leading_zero : Refuses fault.Port (codes "http://h:080/")
unfolding normal_of
leading_zero = refl

fragment : Refuses fault.Fragment (codes "http://h/#a")
unfolding normal_of
fragment = refl

other_scheme : Refuses fault.Scheme (codes "ftp://h/")
unfolding normal_of
other_scheme = refl

no_host : Refuses (fault.Syntax 7) (codes "http:///a")
unfolding normal_of
no_host = refl

-- an escape is not read twice
one_pass : Reads (codes "http://h/%25%32%65") (codes "http://h/%252e")
unfolding normal_of
one_pass = refl

-- the example of RFC 3986 section 5.2.4
standard_example : remove_dot_segments (codes "/a/b/c/./../../g") ≡ codes "/a/g"
standard_example = refl

trailing_dots : remove_dot_segments (codes "/a/b/..") ≡ codes "/a/"
trailing_dots = refl

trailing_dot : remove_dot_segments (codes "/a/.") ≡ codes "/a/"
trailing_dot = refl

above_root : remove_dot_segments (codes "/../../g") ≡ codes "/g"
above_root = refl

only_dots : remove_dot_segments (codes "/..") ≡ codes "/"
only_dots = refl

empty_segments : remove_dot_segments (codes "/a//../b") ≡ codes "/a/b"
empty_segments = refl

empty_query_stays : Reads (codes "http://h/?") (codes "http://h/?")
unfolding normal_of
empty_query_stays = refl
