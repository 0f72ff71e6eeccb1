-- What the slices of a `ComponentSlices` hold.
use Rattle.std.specs.Option.{option_copied}
use Rattle.usp_uri.specs.declared.component_slices.ComponentSlices.{ComponentSlices}
use Rattle.usp_uri.specs.Components.{Components}

abbrev pub components : ComponentSlices → Components
components slices =
    record {
      scheme = slices.scheme.now;
      host = slices.host.now;
      port = option_copied slices.port;
      path = slices.path.now;
      query = option_copied slices.query;
    }
