-- The ports by which a packet leaves the second node are those that the machines' answers replace.
use Rattle.std.proofs.Common.{◌≡◌, ℕ, ◌+◌, ◌*◌, ◌%◌, ◌^◌, ◌<◌, Bool, true, false, refl, sym, ap, ◌∙◌, subst, arith}
use Rattle.octets.specs.declared.address.Addr4.{Addr4}
use Rattle.octets.specs.declared.proto.Proto.{Proto}
use Rattle.octets.specs.declared.proto.Proto.TheVariants.{Tcp, Udp, Icmp}
use Rattle.l4_headers.specs.declared.ports.Ports.{Ports}
use Rattle.octets.specs.declared.address.Addr6.{Addr6}
use Rattle.icmp_messages.specs.declared.icmp6.Icmp6.{Icmp6}
use Rattle.icmp_messages.specs.declared.inner4.Inner4.{Inner4}
use Rattle.icmp_messages.specs.declared.inner6.Inner6.{Inner6}
use Rattle.icmp_messages.specs.declared.table.Row.{Row}
use Rattle.packets.specs.declared.asked.Flow.{Flow}
use Rattle.packets.specs.declared.packet6.Content6.TheVariants.{Later as Later6, Error as Error6}
use Rattle.xlat46.specs.Whole.{ArePorts}
use Rattle.l4_headers.specs.declared.ends.Ends.{Ends}
use Rattle.packets.specs.declared.packet4.Content4.{Content4}
use Rattle.packets.specs.declared.packet4.Content4.TheVariants.{Segment, Later, Query, Error}
use Rattle.packets.specs.declared.packet6.Content6.{Content6}
use Rattle.packets.specs.Asked.{flow_of4, flow_of6}
use Rattle.edge_node.specs.Ends.{ends_out, with_near_port, with_far_port}
use Rattle.crossing.specs.Nat44.{with_source, with_destination, with_ports, with_identifier, content_from, content_to}
use Rattle.crossing.specs.Transfer.{FitsPorts, content_with, inner_with}
use Rattle.crossing.proofs.Error.{ReadsError}
use Rattle.icmp_xlat.specs.Moved.{ports_of}
use Rattle.crossing.proofs.Segment.{ReadsFlow}
use Rattle.crossing.proofs.Uncut.{FlowIs}
use Rattle.trace_text.specs.Hops.{ArePortsOf4, ArePortsOf6}

pub near_fits : (proto : Proto) (fault : Bool) (port : ℕ) (ports : Ports) → port < 65536 → ArePorts ports → ArePorts (with_near_port proto fault port ports)
near_fits Tcp true port ports fits are = (are.0, fits)
near_fits Tcp false port ports fits are = (fits, are.1)
near_fits Udp true port ports fits are = (are.0, fits)
near_fits Udp false port ports fits are = (fits, are.1)
near_fits Icmp fault port ports fits are = (fits, fits)

far_fits : (proto : Proto) (fault : Bool) (port : ℕ) (ports : Ports) → port < 65536 → ArePorts ports → ArePorts (with_far_port proto fault port ports)
far_fits Tcp true port ports fits are = (fits, are.1)
far_fits Tcp false port ports fits are = (are.0, fits)
far_fits Udp true port ports fits are = (fits, are.1)
far_fits Udp false port ports fits are = (are.0, fits)
far_fits Icmp fault port ports fits are = (fits, fits)

near_is_source : (proto : Proto) (port : ℕ) (ports : Ports) → with_near_port proto false port ports ≡ with_source proto port ports
near_is_source Tcp port ports = refl
near_is_source Udp port ports = refl
near_is_source Icmp port ports = refl

far_is_destination : (proto : Proto) (port : ℕ) (ports : Ports) → with_far_port proto false port ports ≡ with_destination proto port ports
far_is_destination Tcp port ports = refl
far_is_destination Udp port ports = refl
far_is_destination Icmp port ports = refl

-- an error goes against the packet that it embeds
near_against : (proto : Proto) (port : ℕ) (ports : Ports) → with_near_port proto true port ports ≡ with_destination proto port ports
near_against Tcp port ports = refl
near_against Udp port ports = refl
near_against Icmp port ports = refl

far_against : (proto : Proto) (port : ℕ) (ports : Ports) → with_far_port proto true port ports ≡ with_source proto port ports
far_against Tcp port ports = refl
far_against Udp port ports = refl
far_against Icmp port ports = refl

-- the identifier of an echo is both its ports
near_again : (proto : Proto) (port : ℕ) (ports : Ports) → ports_of proto (with_near_port proto true port ports) ≡ with_near_port proto true port ports
near_again Tcp port ports = refl
near_again Udp port ports = refl
near_again Icmp port ports = refl

far_again : (proto : Proto) (port : ℕ) (ports : Ports) → with_far_port proto true port (ports_of proto ports) ≡ with_far_port proto true port ports
far_again Tcp port ports = refl
far_again Udp port ports = refl
far_again Icmp port ports = refl

-- ---- what is replaced

-- what the second node replaces, with ports that fit
pub record Replaces (content : Content4) (ends : Ends Addr4) (replaced : Content4) : Type 0 where
  pub is : content_with ends content ≡ replaced
  pub fits : FitsPorts content ends.ports

-- ports are these; a later fragment has none
abbrev pub PortsAre : Content4 → Ports → Ports → Type 0
PortsAre (Later proto) ports others = Unit {0}
PortsAre _ ports others = ports ≡ others

-- the ends of what an error embeds
abbrev pub InnerOut : Content4 → Ends Addr4 → Addr4 → Type 0
InnerOut (Error m row inner) ends from = (ends.inner_src ≡ inner.head.src) × (ends.inner_dst ≡ from)
InnerOut _ ends from = Unit {0}

abbrev pub InnerIn : Content4 → Ends Addr4 → Addr4 → Type 0
InnerIn (Error m row inner) ends to = (ends.inner_src ≡ to) × (ends.inner_dst ≡ inner.head.dst)
InnerIn _ ends to = Unit {0}

abbrev pub InnerBoth : Content4 → Ends Addr4 → Addr4 → Addr4 → Type 0
InnerBoth (Error m row inner) ends from to = (ends.inner_src ≡ to) × (ends.inner_dst ≡ from)
InnerBoth _ ends from to = Unit {0}

inner_is : (inner : Inner4) (ends : Ends Addr4) (src dst : Addr4) (ports : Ports) → ends.inner_src ≡ src → ends.inner_dst ≡ dst → ends.ports ≡ ports
    → inner_with ends inner ≡ record inner { head = record inner.head { src = src; dst = dst }; ports = ports }
inner_is inner ends src dst ports one other same =
    ap (λ (a : Addr4). record inner { head = record inner.head { src = a; dst = ends.inner_dst }; ports = ends.ports }) one
    ∙ ap (λ (a : Addr4). record inner { head = record inner.head { src = src; dst = a }; ports = ends.ports }) other
    ∙ ap (λ (p : Ports). record inner { head = record inner.head { src = src; dst = dst }; ports = p }) same

pub source_given : (content : Content4) (port : ℕ) (from : Addr4) (ends : Ends Addr4) → port < 65536 → ArePorts (flow_of4 content).ports
    → PortsAre content ends.ports (with_near_port (flow_of4 content).proto (flow_of4 content).fault port (flow_of4 content).ports) → InnerOut content ends from → Replaces content ends (content_from from port content)
source_given (Segment proto l4) port from ends small are same inner = record {
  is = ap (λ (ports : Ports). Segment proto (with_ports ports l4)) (same ∙ near_is_source proto port l4.ports);
  fits = subst (λ (ports : Ports). ArePorts ports) (sym same) (near_fits proto false port l4.ports small are);
}
source_given (Later proto) port from ends small are same inner = record { is = refl; fits = tt }
source_given (Query m row) port from ends small are same inner = record {
  is = ap (λ (ports : Ports). Query (with_identifier ports.src m) row) same;
  fits = subst (λ (ports : Ports). ArePorts ports) (sym same) (small, small);
}
source_given (Error m row about) port from ends small are same inner = record {
  is = ap (λ (i : Inner4). Error m row i) (inner_is about ends about.head.src from (with_destination about.proto port about.ports) inner.0 inner.1 (same ∙ near_against about.proto port about.ports));
  fits = subst (λ (ports : Ports). ArePorts ports) (sym same) (near_fits about.proto true port about.ports small are);
}

pub destination_given : (content : Content4) (six : Ports) (port : ℕ) (to : Addr4) (ends : Ends Addr4) → port < 65536 → ArePorts six → ArePortsOf4 content six
    → PortsAre content ends.ports (with_far_port (flow_of4 content).proto (flow_of4 content).fault port six) → InnerIn content ends to → Replaces content ends (content_to to port content)
destination_given (Segment proto l4) six port to ends small are own far inner =
    let same : six ≡ l4.ports = own (λ other later. cc) in
    record {
      is = ap (λ (ports : Ports). Segment proto (with_ports ports l4)) (far ∙ far_is_destination proto port six ∙ ap (λ (ports : Ports). with_destination proto port ports) same);
      fits = subst (λ (ports : Ports). ArePorts ports) (sym far) (far_fits proto false port six small are);
    }
destination_given (Later proto) six port to ends small are own far inner = record { is = refl; fits = tt }
destination_given (Query m row) six port to ends small are own far inner = record {
  is = ap (λ (ports : Ports). Query (with_identifier ports.src m) row) far;
  fits = subst (λ (ports : Ports). ArePorts ports) (sym far) (small, small);
}
destination_given (Error m row about) six port to ends small are own far inner =
    let same : six ≡ about.ports = own (λ other later. cc) in
    record {
      is = ap (λ (i : Inner4). Error m row i) (inner_is about ends to about.head.dst (with_source about.proto port about.ports) inner.0 inner.1 (far ∙ far_against about.proto port six ∙ ap (λ (ports : Ports). with_source about.proto port ports) same));
      fits = subst (λ (ports : Ports). ArePorts ports) (sym far) (far_fits about.proto true port six small are);
    }

kept : (port rest : ℕ) → (port * 2 ^ 16 + rest % 2 ^ 16) % 2 ^ 16 ≡ rest % 2 ^ 16
kept port rest = omega arith

pub both_given : (content : Content4) (one other : ℕ) (from to : Addr4) (ends : Ends Addr4) → one < 65536 → other < 65536 → ArePorts (flow_of4 content).ports
    → PortsAre content ends.ports (with_far_port (flow_of4 content).proto (flow_of4 content).fault other (with_near_port (flow_of4 content).proto (flow_of4 content).fault one (flow_of4 content).ports))
    → InnerBoth content ends from to → Replaces content ends (content_to to other (content_from from one content))
both_given (Segment proto l4) one other from to ends small also are far inner =
    let six = with_near_port proto false one l4.ports in
    record {
      is = ap (λ (ports : Ports). Segment proto (with_ports ports l4)) (far ∙ far_is_destination proto other six ∙ ap (λ (ports : Ports). with_destination proto other ports) (near_is_source proto one l4.ports));
      fits = subst (λ (ports : Ports). ArePorts ports) (sym far) (far_fits proto false other six also (near_fits proto false one l4.ports small are));
    }
both_given (Later proto) one other from to ends small also are far inner = record { is = refl; fits = tt }
both_given (Query m row) one other from to ends small also are far inner = record {
  is = ap (λ (ports : Ports). Query (with_identifier ports.src m) row) far ∙ ap (λ (n : ℕ). Query (record m { rest = other * 2 ^ 16 + n }) row) (sym (kept one m.rest));
  fits = subst (λ (ports : Ports). ArePorts ports) (sym far) (also, also);
}
both_given (Error m row about) one other from to ends small also are far inner =
    let six = with_near_port about.proto true one about.ports in
    record {
      is = ap (λ (i : Inner4). Error m row i) (inner_is about ends to from (with_source about.proto other (with_destination about.proto one about.ports)) inner.0 inner.1 (far ∙ far_against about.proto other six ∙ ap (λ (ports : Ports). with_source about.proto other ports) (near_against about.proto one about.ports)));
      fits = subst (λ (ports : Ports). ArePorts ports) (sym far) (far_fits about.proto true other six also (near_fits about.proto true one about.ports small are));
    }

-- ---- what is read on the access network

error_flow_of : (inner : Inner4) (six : Ends Addr6) (q : Content6) (read : ReadsError inner six q) → flow_of6 q ≡ record { fault = true; proto = read.about.proto; ports = read.about.ports; flags = 0 }
error_flow_of inner six q read = ap (λ (x : Content6). flow_of6 x) read.is

-- a packet that an edge sent has the ports that the edge gave it
pub read_near : (content : Content4) (port : ℕ) (src6 dst6 : Addr6) (q : Content6) (ports : Ports) → FlowIs content (ends_out (flow_of4 content) port src6 dst6) q → ArePortsOf6 q ports
    → PortsAre content ports (with_near_port (flow_of4 content).proto (flow_of4 content).fault port (flow_of4 content).ports)
read_near (Segment proto l4) port src6 dst6 q ports read flow = flow read.no_later ∙ read.ports_are
read_near (Later proto) port src6 dst6 q ports read flow = tt
read_near (Query m row) port src6 dst6 q ports read flow = flow read.no_later ∙ read.ports_are
read_near (Error m row inner) port src6 dst6 q ports read flow =
    flow (λ other later. no_error other read.message read.row read.about (sym later ∙ read.is))
    ∙ ap (λ (f : Flow). f.ports) (error_flow_of inner (ends_out (flow_of4 (Error m row inner)) port src6 dst6) q read)
    ∙ read.ports_are
    ∙ near_again inner.proto port inner.ports
  where
    no_error : (proto : Proto) (message : Icmp6) (row : Row) (about : Inner6) → Later6 proto ≡ Error6 message row about → ⊥
    no_error proto message row about e = cc

-- the ports that an edge gives a packet that comes in
far_read : (q : Content6) (proto : Proto) (six : Ports) (port : ℕ) → ReadsFlow q proto six → with_far_port (flow_of6 q).proto (flow_of6 q).fault port (flow_of6 q).ports ≡ with_far_port proto false port six
far_read q proto six port read =
    ap (λ (p : Proto). with_far_port p (flow_of6 q).fault port (flow_of6 q).ports) read.proto_is
    ∙ ap (λ (b : Bool). with_far_port proto b port (flow_of6 q).ports) read.fault
    ∙ ap (λ (ports : Ports). with_far_port proto false port ports) read.ports_are

pub read_far : (content : Content4) (six : Ends Addr6) (port : ℕ) (q : Content6) → FlowIs content six q
    → PortsAre content (with_far_port (flow_of6 q).proto (flow_of6 q).fault port (flow_of6 q).ports) (with_far_port (flow_of4 content).proto (flow_of4 content).fault port six.ports)
read_far (Segment proto l4) six port q read = far_read q proto six.ports port read
read_far (Later proto) six port q read = tt
read_far (Query m row) six port q read = far_read q Icmp (record { src = six.ports.src; dst = six.ports.src }) port read
read_far (Error m row inner) six port q read =
    ap (λ (f : Flow). with_far_port f.proto f.fault port f.ports) (error_flow_of inner six q read)
    ∙ ap (λ (p : Proto). with_far_port p true port read.about.ports) read.proto_is
    ∙ ap (λ (ports : Ports). with_far_port inner.proto true port ports) read.ports_are
    ∙ far_again inner.proto port six.ports
