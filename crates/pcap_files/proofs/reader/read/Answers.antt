use Rattle.std.proofs.Common.{arith}
use Rattle.pcap_files.proofs.Answered.{found, only, refused, first_fault, writable}
use Rattle.pcap_files.proofs.reader.read.Goals as goal

pub returns-clause-found : goal.returns-clause-found
returns-clause-found c = found c.args.room c.args.octets.now c.records_of.result (λ i. omega (arith, c.type_inv.octets i)) c.records_of.ensures

pub returns-clause-only : goal.returns-clause-only
returns-clause-only c = only c.args.room c.args.octets.now c.records_of.result (λ i. omega (arith, c.type_inv.octets i)) c.records_of.ensures

pub returns-clause-first_fault : goal.returns-clause-first_fault
returns-clause-first_fault c = first_fault c.args.room c.args.octets.now c.records_of.result (λ i. omega (arith, c.type_inv.octets i)) c.records_of.ensures

pub returns-clause-refused : goal.returns-clause-refused
returns-clause-refused c = refused c.args.room c.args.octets.now c.records_of.result (λ i. omega (arith, c.type_inv.octets i)) c.records_of.ensures

pub returns-clause-writable : goal.returns-clause-writable
returns-clause-writable c = writable c.args.room c.args.octets.now c.records_of.result (λ i. omega (arith, c.type_inv.octets i)) c.records_of.ensures
