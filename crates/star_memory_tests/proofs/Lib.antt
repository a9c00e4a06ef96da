pub mod FewPuts
