pub mod NoMember
